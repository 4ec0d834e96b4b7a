-- `decode_value`: what is left is taken as one slice.
use Rattle.std.proofs.Common.{◌≡◌, ◌∙◌}
use Rattle.der_core.proofs.ReadSteps.{all_fails, all_gives, all_left, not_all, slice_within}
use Rattle.der_core.proofs.decode.DecodeValue.decode_value.Goals as goal

pub returns-in_err-contents : goal.returns-in_err-contents
returns-in_err-contents g c = absurd (not_all _ _ _ c.requires c.in_err-contents.ensures.0)

pub read_value-requires : goal.read_value-requires
read_value-requires g c = slice_within c.args.header.length _ (g.R.BytesLeft.left c.args.reader.now) _
    (g.R.BytesLeft.bounded c.args.reader.now) c.in_ok-contents.ensures

pub returns-in-Ok : goal.returns-in-Ok
returns-in-Ok g c =
    let all = all_left _ _ _ _ c.requires c.in_ok-contents.ensures in
    (all_gives g.Self.Contents.read _ _ _ all.0 c.in-Ok.ensures, all.1)

pub returns-in-Err : goal.returns-in-Err
returns-in-Err g c =
    let kind : c.error.result.kind ≡ c.in-Err.e.kind = c.error.ensures.value ∙ c.kind.ensures in
    let all = all_left _ _ _ _ c.requires c.in_ok-contents.ensures in
    rw kind (all_fails g.Self.Contents.read g.Self.DecodeValue.may_allocate _ _ _ _ all.0 c.in-Err.ensures c.error.ensures.failed)
