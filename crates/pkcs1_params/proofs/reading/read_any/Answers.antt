-- `read_any`, where the tag isn't that of SEQUENCE: the error names both tags, as `any_as` does.
use Rattle.std.proofs.Common.{Err, arith, ap, false, refl, sym, ◌==◌, ◌≡◌, ◌∙◌}
use Rattle.der_core.proofs.Readings.{unexpected_tag_read}
use Rattle.der_core.specs.declared.error.ErrorKind.TheVariants.{TagUnexpected}
use Rattle.der_core.specs.Words.{same_tag, sequence_tag, unexpected}
use Rattle.spki_core.specs.Words.{any_of}
use Rattle.pkcs1_params.proofs.reading.read_any.Goals as goal

pub returns-then-ne : goal.returns-then-ne
returns-then-ne g c =
    let kind =
    ap (λ e. e.kind) c.new.ensures ∙ ap (λ t. TagUnexpected t c.tag-then-ne.result) (same_tag _ sequence_tag refl) in
    let isnt : ((any_of c.args.any).tag == 48) ≡ false = grind arith in
    rw isnt (ap (unexpected sequence_tag) (sym c.tag-then-ne.ensures)
    ∙ unexpected_tag_read sequence_tag c.tag-then-ne.result
    ∙ ap (λ k. Err k) (sym kind))
