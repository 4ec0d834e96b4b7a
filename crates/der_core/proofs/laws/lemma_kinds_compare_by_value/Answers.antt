-- `==` of kinds is true of a kind and itself, and of no two others: so it decides whether they are equal.
use Rattle.std.proofs.Common.{ap}
use Rattle.der_core.proofs.ErrorEquality.{equality_decides, kind_equals_itself, kind_tells}
use Rattle.der_core.proofs.laws.lemma_kinds_compare_by_value.Goals as goal

pub returns-clause-kind : goal.returns-clause-kind
returns-clause-kind c = equality_decides _ kind_equals_itself kind_tells

-- The same of errors, which hold nothing but their kinds.
pub returns-clause-error : goal.returns-clause-error
returns-clause-error c =
    equality_decides _ (λ a. kind_equals_itself a.kind)
    (λ a b e. ap (λ k. record { kind = k }) (kind_tells a.kind b.kind e))
