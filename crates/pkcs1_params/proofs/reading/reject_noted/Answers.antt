-- `reject_noted`, where a default was noted, and reading is strict: `noncanonical` names the same tag as `Tag::context` of
-- the number.
use Rattle.std.proofs.Common.{◌∙◌, Err, ap, sym}
use Rattle.der_core.specs.declared.error.Error.{Error}
use Rattle.spki_core.proofs.StrictFields.{noncanonical_is}
use Rattle.spki_core.specs.Words.{tag_number_in}
use Rattle.pkcs1_params.proofs.reading.reject_noted.Goals as goal

pub returns-in-Some : goal.returns-in-Some
returns-in-Some c =
    rw (c.in-Some.is, c.if-strict.true)
    (ap (λ k. Err k) (noncanonical_is (tag_number_in c.in-Some.number) c.context.result c.context.ensures)
    ∙ ap (λ (e : Error). Err e.kind) (sym c.new.ensures))
