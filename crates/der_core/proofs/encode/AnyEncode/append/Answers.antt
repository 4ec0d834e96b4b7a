-- `append` of each `T: EncodeValue + FixedTag`, at the end: the header was written, and the contents after it. What was
-- counted is their length.
use Rattle.std.proofs.Common.{arith, rules, length, length-append, ◌≡◌}
use Rattle.der_core.specs.Words.{length_octets}
use Rattle.der_core.proofs.Headers.{behind_header}
use Rattle.der_core.proofs.encode.AnyEncode.append.Goals as goal

pub returns-clause-appends : goal.returns-clause-appends
returns-clause-appends g c =
    let t = g.T.Contents in
    let tag = g.T.FixedTag.TAG.octet in
    let contents = t.printed (t.written (t.value c.args.self.now)) in
    let whole = length-append (length_octets (length contents)) contents in
    let counted = c.prepend_value.ensures.0 (omega (arith, whole, c.new-counter.ensures, c.requires.fits)) in
    let is : c.of.result ≡ length contents =
    omega (arith, counted, c.new-counter.ensures, c.filled_len.ensures, c.of.ensures) in
    behind_header tag contents is c.to_bytes.result.items (search rules) c.requires.fits c.requires.has c.requires.has
    (search rules) (search rules) c.append_value.ensures.appends
