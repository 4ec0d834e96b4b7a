-- Worked rows of `Identifiers.antt` of `spki_core`: which algorithm identifiers are equal, or mean the same.
use Rattle.std.proofs.Common.{ℕ, List, [], ◌∷◌, ◌≡◌, ◌⊎◌, map, refl, Bool, true, false, Option, Some, None}
use Rattle.std.specs.Prelude.{◌↔◌}
use Rattle.spki_core.specs.Identifiers.{AreNullOrAbsent, AreSameHash, IsHash, algorithm_contents, algorithm_map, null_value, same_algorithm, same_any, same_mask, same_plain}
use Rattle.standard.specs.Statement.{Algorithm, TagAndContents, any, length_octets}

abbrev any_with : ℕ → List ℕ → TagAndContents
any_with tag contents = record { tag = tag; contents = contents }

abbrev named : {P : Type 0} → ℕ → Option P → Algorithm P
named n parameters = record { oid = n ∷ []; parameters = parameters }

null_is : null_value ≡ any_with 5 []
null_is = refl

mapped : {P Q : Type 0} (f : P → Q) (oid : List ℕ) (p : P)
    → algorithm_map f (record { oid = oid; parameters = Some p }) ≡ record { oid = oid; parameters = Some (f p) }
mapped f oid p = refl

printed_contents : algorithm_contents any (named 42 (Some (any_with 5 []))) ≡ 6 ∷ 1 ∷ 42 ∷ 5 ∷ 0 ∷ []
unfolding length_octets
printed_contents = refl

any_equal : map (same_any (any_with 5 (1 ∷ []))) (any_with 5 (1 ∷ []) ∷ any_with 4 (1 ∷ []) ∷ any_with 5 [] ∷ [])
    ≡ true ∷ false ∷ false ∷ []
any_equal = refl

abbrev plain_of : ℕ → ℕ → Algorithm TagAndContents
plain_of n tag = named n (Some (any_with tag []))

plain_equal : map (same_plain (plain_of 42 5)) (plain_of 42 5 ∷ plain_of 43 5 ∷ plain_of 42 4 ∷ named 42 None ∷ [])
    ≡ true ∷ false ∷ false ∷ false ∷ []
plain_equal = refl

mask_equal : map (same_mask (named 1 (Some (plain_of 42 5))))
    (named 1 (Some (plain_of 42 5)) ∷ named 2 (Some (plain_of 42 5)) ∷ named 1 (Some (plain_of 42 4)) ∷ [])
    ≡ true ∷ false ∷ false ∷ []
mask_equal = refl

algorithms_equal : (same : ℕ → ℕ → Bool) → same_algorithm same (named 1 None) (named 1 None) ≡ true
algorithms_equal same = refl

null_or_absent : (parameters : Option TagAndContents) → AreNullOrAbsent parameters
    ↔ ((parameters ≡ None) ⊎ (parameters ≡ Some (any_with 5 [])))
null_or_absent parameters = (λ p. p, λ p. p)

hash_named : (oid : List ℕ) (a : Algorithm TagAndContents) → IsHash oid a
    ↔ ((a.oid ≡ oid) × ((a.parameters ≡ None) ⊎ (a.parameters ≡ Some (any_with 5 []))))
hash_named oid a = (λ p. p, λ p. p)

same_hash : (a b : Algorithm TagAndContents) → AreSameHash a b ↔ ((a.oid ≡ b.oid) × ((a.parameters ≡ b.parameters)
    ⊎ (((a.parameters ≡ None) ⊎ (a.parameters ≡ Some (any_with 5 [])))
    × ((b.parameters ≡ None) ⊎ (b.parameters ≡ Some (any_with 5 []))))))
same_hash a b = (λ p. p, λ p. p)
