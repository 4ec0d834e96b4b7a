-- `try_from` of `TryFrom<&[u8]> for PssParamsOf<O, AnyRef>`, at its end: what `pss_from_view` makes of the view means
-- the same parameters, which `read_params` read.
use Rattle.std.proofs.Common.{refl, subst, sym, Some}
use Rattle.standard.specs.Statement.{Decodes, PssEncoding}
use Rattle.pkcs1_params.proofs.pss.PssParamsOfAnyRefTryFromRefSliceU8.try_from.Goals as goal

pub returns-clause-read : goal.returns-clause-read
returns-clause-read g c =
    subst (λ v. Decodes PssEncoding c.args.bytes.now (Some v)) (sym c.pss_from_view.ensures)
    (c.in_ok-view.ensures.read refl)
