-- `first_tag`: there is no octet, or it isn't that of a tag.
use Rattle.std.proofs.Common.{◌∙◌, ◌≡◌, ◌≤◌, IfErr, List, ℕ, Result, Ok, Err, ap, arith, false, length, slice_index_or, sym}
use Rattle.der_core.specs.Words.{is_allowed}
use Rattle.der_core.specs.declared.error.Error.{Error}
use Rattle.der_core.specs.declared.error.ErrorKind.TheVariants.{TagUnknown}
use Rattle.der_core.specs.declared.tag.Tag.{Tag}
use Rattle.spki_core.specs.Words.{any_front}
use Rattle.spki_core.proofs.Readings.{no_tag, unknown_tag}
use Rattle.spki_core.proofs.any.first_tag.Goals as goal

pub returns-in-empty-clause-err : goal.returns-in-empty-clause-err
returns-in-empty-clause-err c =
    no_tag _ (omega (arith, c.in-empty.len_below)) ∙ ap (λ (e : Error). Err e.kind) (sym c.new.ensures)

no_tag_there : (b : List ℕ) (r : Result Tag Error) → 1 ≤ length b
    → IfErr r (λ e. (e.kind ≡ TagUnknown (slice_index_or b 0 0)) × (is_allowed (slice_index_or b 0 0) ≡ false))
    → IfErr r (λ e. any_front b ≡ Err e.kind)
no_tag_there b (Ok tag) some p = tt
no_tag_there b (Err e) some p = unknown_tag b some p.1 ∙ ap (λ k. Err k) (sym p.0)

pub returns-in-len1-up-clause-err : goal.returns-in-len1-up-clause-err
returns-in-len1-up-clause-err c =
    no_tag_there c.args.bytes.now c.from_octet.result c.in-len1-up.len_at_least c.from_octet.ensures.err
