-- `Tag::context` of the number has the octet of the field's tag, so what `decode_tagged` reads inside it is the field.
use Rattle.std.proofs.Common.{Err, Ok}
use Rattle.der_core.specs.Words.{AllocatesAtFront, err_from_is_err_and}
use Rattle.spki_core.proofs.Readings.{reads_at_tag}
use Rattle.spki_core.proofs.context_specific.read_explicit.Goals as goal

pub returns-in_err-inside : goal.returns-in_err-inside
returns-in_err-inside g c =
    let p = err_from_is_err_and c.from_residual.result c.from_residual.ensures.1 in
    rw (p.1, p.2) (reads_at_tag g.T.Encoding.value g.T.Encoding.read_front (AllocatesAtFront g.T.Decode.may_allocate)
    c.args.number.value c.context.result c.context.ensures (Err c.in_err-inside.field-0.0)
    (g.R.BytesLeft.left c.args.reader.now) _ c.in_err-inside.ensures)

pub returns : goal.returns
returns g c =
    reads_at_tag (λ inside. g.T.Encoding.value inside.0) g.T.Encoding.read_front
    (AllocatesAtFront g.T.Decode.may_allocate) c.args.number.value c.context.result c.context.ensures
    (Ok c.in_ok-inside.inside) (g.R.BytesLeft.left c.args.reader.now) _ c.in_ok-inside.ensures
