-- `try_from` of `TryFrom<&[u8]> for OaepParamsOf<O, AnyRef>`, at its end: what `oaep_from_view` makes of the view means
-- the same parameters, which `read_params` read.
use Rattle.std.proofs.Common.{refl, subst, sym, Some}
use Rattle.standard.specs.Statement.{Decodes, OaepEncoding}
use Rattle.pkcs1_params.proofs.oaep.OaepParamsOfAnyRefTryFromRefSliceU8.try_from.Goals as goal

pub returns-clause-read : goal.returns-clause-read
returns-clause-read g c =
    subst (λ v. Decodes OaepEncoding c.args.bytes.now (Some v)) (sym c.oaep_from_view.ensures)
    (c.in_ok-view.ensures.read refl)
