-- `from_der_strict` of `OaepParamsOf<O, AnyRef>`, at the end: what `oaep_from_view` makes of the view means the same
-- parameters, which `read_params` read strictly.
use Rattle.std.proofs.Common.{refl, subst, sym, Some}
use Rattle.standard.specs.Statement.{Decodes, IsShortest, OaepEncoding}
use Rattle.pkcs1_params.proofs.oaep.OaepParamsOf+O+AnyRef.from_der_strict.Goals as goal

pub returns-clause-read : goal.returns-clause-read
returns-clause-read g c =
    subst (λ v. Decodes (IsShortest OaepEncoding) c.args.bytes.now (Some v)) (sym c.oaep_from_view.ensures)
    (c.in_ok-view.ensures.shortest refl)
