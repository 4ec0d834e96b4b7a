-- `append` of `ContextSpecificRef`. The tag octet is 160 + the number. The contents are the encoding of the value, and
-- what was counted is their length. `p` is that `?` hands the error on.
use Rattle.std.proofs.Common.{◌+◌, ◌≡◌, arith, length, length-append, rules}
use Rattle.der_core.specs.Words.{err_from_is_err_and, length_octets}
use Rattle.der_core.proofs.Headers.{behind_header, no_header}
use Rattle.spki_core.proofs.context_specific.ContextSpecificRefEncode.append.Goals as goal

-- At the `?` after `write`, which is of the header: where it has no room, the encoding has none.
pub returns-in_err-write-clause-appends : goal.returns-in_err-write-clause-appends
returns-in_err-write-clause-appends g c =
    let p = err_from_is_err_and c.from_residual.result c.from_residual.ensures.1 in
    let t = g.T.Encoding in
    let contents = t.printed (t.written (t.value c.args.self.now.value.now)) in
    let whole = length-append (length_octets (length contents)) contents in
    let counted = c.prepend.ensures.0 (omega (arith, whole, c.new-counter.ensures, c.requires.fits)) in
    let is : c.of.result ≡ length contents =
    omega (arith, counted, c.new-counter.ensures, c.filled_len.ensures, c.of.ensures) in
    rw (p.1, p.2) (no_header (160 + c.args.self.now.tag_number.value) contents is _ (search rules) c.requires.fits
    c.requires.has c.in_err-write.ensures.err c.in_err-write.ensures.nothing.0)

-- At the end, the encoding of the value comes after the header.
pub returns-clause-appends : goal.returns-clause-appends
returns-clause-appends g c =
    let t = g.T.Encoding in
    let contents = t.printed (t.written (t.value c.args.self.now.value.now)) in
    let whole = length-append (length_octets (length contents)) contents in
    let counted = c.prepend.ensures.0 (omega (arith, whole, c.new-counter.ensures, c.requires.fits)) in
    let is : c.of.result ≡ length contents =
    omega (arith, counted, c.new-counter.ensures, c.filled_len.ensures, c.of.ensures) in
    behind_header (160 + c.args.self.now.tag_number.value) contents is c.to_bytes.result.items (search rules)
    c.requires.fits c.requires.has c.requires.has.1 (search rules) (search rules) c.append.ensures.appends
