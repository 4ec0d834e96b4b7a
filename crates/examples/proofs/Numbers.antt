-- A list of numbers with a version: what is printed of its row is what its grammar says.
use Rattle.std.proofs.Common.{ℕ, List, [], ◌∷◌, ◌++◌, ◌≡◌, ◌∙◌, map, refl, ap, append-nil, arith, sym, map-id}
use Rattle.std.specs.List.{AllByRecursion}
use Rattle.der_core.specs.Words.{IsInRange, StatedAs, stated, Spells}
use Rattle.examples.specs.NumberList.{IsNumberList, NumberList, NumberListEncoding}
use Rattle.standard.specs.Statement.{integer, integers, sequence}

abbrev NumbersRow : Type 0
NumbersRow = ℕ × (List ℕ × Unit {0})

abbrev IsNumbersRow : NumbersRow → Type 0
IsNumbersRow v = IsInRange 0 1 v.0 × (AllByRecursion (λ _. Unit {0}) v.1.0 × Unit {0})

abbrev numbers_row_printed : NumbersRow → List ℕ
numbers_row_printed v = sequence (integer v.0 ++ (sequence (integers v.1.0) ++ []))

-- Each number is spelled as itself.
abbrev numbers_row_spelled : NumbersRow → NumbersRow
numbers_row_spelled v = (v.0, (map (λ n. n) v.1.0, tt))

abbrev number_list_in : NumbersRow → NumberList
number_list_in v = record { version = v.0; numbers = v.1.0 }

all_numbers : (ns : List ℕ) → AllByRecursion (λ _. Unit {0}) ns
all_numbers [] = tt
all_numbers (n ∷ ns) = (tt, all_numbers ns)

numbers_row_has_one_end : (v : NumbersRow) → numbers_row_printed v ≡ sequence (integer v.0 ++ sequence (integers v.1.0))
numbers_row_has_one_end v = ap (λ list. sequence (integer v.0 ++ list)) (append-nil (sequence (integers v.1.0)))

pub number_list_law : StatedAs (λ v. IsNumbersRow (numbers_row_spelled v))
    (Spells IsNumbersRow numbers_row_printed numbers_row_spelled) IsNumberList NumberListEncoding
    number_list_in
number_list_law =
    stated numbers_row_spelled (λ v i. (v.0, (map-id v.1.0 i, tt))) (λ w. (w.version, (w.numbers, tt))) (λ w. refl)
    (λ v. (λ p. omega arith, λ p. (((omega arith, omega arith), omega arith), (all_numbers v.1.0, tt))))
    (λ v bytes. (
      λ (few, ok, is). (few, omega arith, is ∙ numbers_row_has_one_end v),
      λ (few, ok, is). (
        few,
        (((omega arith, omega arith), omega arith), (all_numbers v.1.0, tt)),
        is ∙ sym (numbers_row_has_one_end v),
      ),
    ))
