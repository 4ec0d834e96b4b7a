-- `true_of`, at its `Err`: the contents aren't the octet ff alone, so reading gives `Value` of BOOLEAN, as the error.
use Rattle.std.proofs.Common.{ap, sym, ◌∙◌, refl, Ok, Err, if◌then◌else◌}
use Rattle.der_core.specs.declared.error.ErrorKind.TheVariants.{Value}
use Rattle.der_core.specs.Words.{boolean_tag, same_tag}
use Rattle.examples.proofs.extension.true_of.Goals as goal

pub returns-else-is_true : goal.returns-else-is_true
returns-else-is_true c =
    ap (λ b. if b then Ok tt else Err (Value boolean_tag)) (sym c.is_true.ensures ∙ c.if-is_true.false)
    ∙ ap (λ t. Err (Value t)) (same_tag boolean_tag _ refl) ∙ ap (λ e. Err e.kind) (sym c.new.ensures)
