-- `decode_as` gives the value whose contents and tag are held, and `TagUnexpected` of another tag.
use Rattle.std.proofs.Common.{Err, arith, ap, false, inr, sym, ◌==◌, ◌≡◌, ◌∙◌}
use Rattle.der_core.proofs.Readings.{unexpected_tag_read}
use Rattle.der_core.specs.declared.error.ErrorKind.TheVariants.{TagUnexpected}
use Rattle.der_core.specs.Words.{are_bytes, reading_reads, unexpected}
use Rattle.der_core.proofs.ReadSteps.{unequal_test_false}
use Rattle.spki_core.specs.Words.{any_of}
use Rattle.spki_core.proofs.Readings.{read_as_any}
use Rattle.spki_core.proofs.any.AnyRef.decode_as.Goals as goal

-- Where the tag isn't that of `T`: the error names both tags, as `any_as` does.
pub returns-then-ne-clause-exact : goal.returns-then-ne-clause-exact
returns-then-ne-clause-exact g c =
    let kind = ap (λ e. e.kind) c.new.ensures ∙ ap (λ t. TagUnexpected t c.tag-then-ne.result) c.TAG-then-ne.ensures in
    let isnt : ((any_of c.args.self).tag == g.T.FixedTag.TAG.octet) ≡ false = grind arith in
    inr (rw isnt (ap (unexpected g.T.FixedTag.TAG) (sym c.tag-then-ne.ensures)
    ∙ unexpected_tag_read _ c.tag-then-ne.result
    ∙ ap (λ k. Err k) (sym kind)))

-- At the end, the tag is that of `T`, and `read_contents` reads all contents. If it returns `Ok`, they are the contents
-- of that value.
pub returns-clause-ok : goal.returns-clause-ok
returns-clause-ok g c =
    let same = unequal_test_false _ _ _ _ c.if-ne.false c.ne.ensures (ap (λ t. t.octet) c.TAG.ensures) in
    read_as_any g.T.Contents.value g.T.FixedTag.TAG (reading_reads g.T.Contents.law g.T.Contents.reads_alike) (any_of c.args.self) _
    (are_bytes _ c.args.self.octets) c.args.self.bounded (sym c.tag.ensures ∙ same) c.read_contents.result
    c.read_contents.ensures.exact
