-- `read_field`, where the octet of the field's tag is next (`next`), so the default isn't taken: what `read_tagged` gives
-- of the tag is the field.
use Rattle.std.proofs.Common.{◌≡◌, ◌∙◌, true}
use Rattle.der_core.specs.Words.{AllocatesAtFront, context_octet, err_from_is_err_and, is_next}
use Rattle.spki_core.specs.Words.{explicit_is}
use Rattle.spki_core.proofs.Readings.{field_not_read}
use Rattle.spki_core.proofs.field.read_field.Goals as goal

pub returns-in_err-inside-clause-read : goal.returns-in_err-inside-clause-read
returns-in_err-inside-clause-read g c =
    let p = err_from_is_err_and c.from_residual.result c.from_residual.ensures.1 in
    let next : is_next (context_octet c.args.number.value) c.args.bytes.now ≡ true = cc in
    rw (p.1, p.2) (field_not_read g.T.Encoding.read_front _ (AllocatesAtFront g.T.Decode.may_allocate) c.args.number.value
    c.context-tag.result _ _ c.context-tag.ensures next c.in_err-inside.ensures.read)

pub returns-clause-read : goal.returns-clause-read
returns-clause-read g c =
    let next : is_next (context_octet c.args.number.value) c.args.bytes.now ≡ true = cc in
    rw next (explicit_is g.T.Encoding.read_front c.args.number.value c.context-tag.result _ c.context-tag.ensures
    ∙ c.in_ok-inside.ensures.read)
