-- `read_one` of `AnyRef`: the contents behind the tag that is in front are split off, or have a fault.
use Rattle.std.proofs.Common.{ap, inr, sym, Ok}
use Rattle.der_core.specs.Words.{err_from_is_err_and}
use Rattle.der_core.proofs.Splitting.{read_by_tag}
use Rattle.spki_core.specs.Words.{opaque}
use Rattle.spki_core.proofs.Readings.{by_tag_fails}
use Rattle.spki_core.proofs.any.AnyRefDecodeRefSliceU8.read_one.Goals as goal

pub returns-in_err-contents-clause-read : goal.returns-in_err-contents-clause-read
returns-in_err-contents-clause-read g c =
    let p = err_from_is_err_and c.from_residual-in_err-contents.result c.from_residual-in_err-contents.ensures.1 in
    rw (p.1, p.2) (inr (by_tag_fails c.in_ok-tag.tag opaque _ _ c.in_ok-tag.ensures.ok c.in_err-contents.ensures.err))

pub returns-clause-read : goal.returns-clause-read
returns-clause-read g c =
    read_by_tag c.in_ok-tag.tag opaque _ _ _ _ c.in_ok-contents.ensures.ok (ap (λ v. Ok v) (sym c.over.ensures))
