-- `hash_of` gives the hash of the shortest encoding, which is what `encode` has appended to a new writer, to which
-- nothing was written. `t` is what the trait `Encoding` says of the type of the value, `v` is the value.
use Rattle.std.proofs.Common.{[]}
use Rattle.der_core.specs.Words.{written_is_shortest}
use Rattle.examples.proofs.hashing_writer.hash_of.Goals as goal

pub returns-clause-ok : goal.returns-clause-ok
returns-clause-ok g c =
    let t = g.T.Encoding in
    let v = t.value c.args.value.now in
    let appends = c.in_ok-encode.ensures.appends in (
      t.printed (t.written v),
      written_is_shortest t.shortest v appends.has.0 appends.has.1,
      appends.written [] c.new-writer.ensures,
    )
