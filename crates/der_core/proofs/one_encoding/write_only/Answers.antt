-- `write_only` says what `encode_into` does of the slice, and of its error, in the words of the statement.
use Rattle.std.proofs.Common.{length}
use Rattle.der_core.proofs.Writing.{encode_into_encodes, encode_into_unwritten}
use Rattle.der_core.proofs.one_encoding.write_only.Goals as goal

pub returns-clause-written : goal.returns-clause-written
returns-clause-written g c =
    let t = g.T.Encoding in
    let made = c.encode_into.ensures in
    encode_into_encodes t.shortest (t.value c.args.value.now) c.args.out.now _ c.encode_into.result made.ok
    made.shortest
    made.err made.unchanged c.encode_into.auto.out

pub returns-clause-err : goal.returns-clause-err
returns-clause-err g c =
    let t = g.T.Encoding in
    encode_into_unwritten t.shortest (t.value c.args.value.now) (length c.args.out.now) c.encode_into.result
    c.encode_into.ensures.err
