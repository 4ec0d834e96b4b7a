-- `decode` of `Any`, where `copy_of` returns `Err`: there was no memory for the copy. It may be asked for, as what is
-- left in the reader began with an encoding.
use Rattle.std.proofs.Common.{◌∙◌, inl}
use Rattle.der_core.proofs.ReadSteps.{front_asks}
use Rattle.spki_core.specs.Words.{any_values}
use Rattle.spki_core.proofs.owned_any.AnyDecodeRefSliceU8Global.decode.Goals as goal

pub returns-in-Err : goal.returns-in-Err
returns-in-Err g c = (
  c.error.ensures.failed,
  inl (
    c.error.ensures.value ∙ c.kind.ensures ∙ c.in-Err.ensures.err,
    front_asks any_values _ _ _ (g.R.BytesLeft.bytes c.args.reader.now) c.in_ok-any.ensures,
  ),
)
