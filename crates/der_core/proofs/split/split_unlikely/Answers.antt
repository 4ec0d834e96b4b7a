-- `split_slowly`, at the `Err` of another tag.
use Rattle.std.proofs.Common.{ap, refl, sym, ◌∙◌, Err}
use Rattle.der_core.specs.declared.error.Error.{Error}
use Rattle.der_core.proofs.ReadSteps.{unequal_test_true}
use Rattle.der_core.proofs.ReadSteps.{other_tag}
use Rattle.der_core.proofs.split.split_unlikely.Goals as goal

pub returns-then-ne-clause-err : goal.returns-then-ne-clause-err
returns-then-ne-clause-err c =
    other_tag c.args.tag c.in_ok-header.header.tag _ _ _ _ c.in_ok-reader.ensures.ok c.in_ok-header.ensures.exact
    (unequal_test_true _ _ _ _ c.if-ne.true c.ne.ensures refl)
    ∙ ap (λ (e : Error). Err e.kind) (sym c.new-then-ne.ensures)
