-- `in-0` is the arm `[0, rest @ ..]`. Of `rest`, `in-len1-up-rest` is the arm of 128 or more.
use Rattle.std.proofs.Common.{refl, ap, arith, length, ◌<◌}
use Rattle.der_core.proofs.Integers.{integer_of_empty, integer_of_negative, integer_of_padded, rest_holds}
use Rattle.der_core.proofs.integer.uint.integer.Goals as goal

-- `rest` begins with 128 or more, so a `UintRef` may hold it.
pub invariant_of-result-in-len1-up-rest-clause-canonical : goal.invariant_of-result-in-len1-up-rest-clause-canonical
invariant_of-result-in-len1-up-rest-clause-canonical c =
    rest_holds _ c.in-0.len_at_least c.in-len1-up-rest.len_at_least c.if-second-ge128.true
    (λ i. omega (arith, c.type_inv.contents i))

-- `rest` begins with less, so the 0 is needless: the fault is `Noncanonical`.
pub returns-in-len1-up-2-rest : goal.returns-in-len1-up-2-rest
returns-in-len1-up-2-rest c =
    integer_of_padded _ _ _ c.in-0.len_at_least (omega arith) c.in-len1-up-rest.len_at_least c.if-second-ge128.false
    (ap (λ e. e.kind) c.new-in-len1-up-2-rest.ensures) refl

-- There are no contents: the fault is `Length`.
pub returns-in-empty : goal.returns-in-empty
returns-in-empty c =
    let none : length c.args.contents.now < 1 = omega (arith, c.in-empty.len_below) in
    integer_of_empty _ _ _ none (ap (λ e. e.kind) c.new.ensures) refl

-- The first octet is 128 or more, so the number is below zero: the fault is `Value`.
pub returns-in-len1-up-2 : goal.returns-in-len1-up-2
returns-in-len1-up-2 c =
    integer_of_negative _ _ _ c.in-len1-up.len_at_least c.if-first-lt128.false
    (ap (λ e. e.kind) c.new-in-len1-up-2.ensures) refl
