-- `is_same`, where both slices have nine octets: all nine are equal exactly if the slices are.
use Rattle.std.proofs.Common.{ℕ, List, [], ◌∷◌, ◌≡◌, ◌∙◌, ◌&&◌, Bool, ap, arith, length, nat_eq, refl, slice_index, subst, sym, true}
use Rattle.spki_core.specs.Words.{upto}
use Rattle.pkcs1_c.proofs.algorithm.is_same.Goals as goal

-- A list is that of its elements, by index.
list_upto : (l : List ℕ) → l ≡ upto (length l) (slice_index l)
list_upto [] = refl
list_upto (x ∷ xs) = ap (λ ys. x ∷ ys) (list_upto xs)

nine_octets_upto : (l : List ℕ) → length l ≡ 9 → l ≡ upto 9 (slice_index l)
nine_octets_upto l is = list_upto l ∙ ap (λ n. upto n (slice_index l)) is

-- Two lists of nine octets, by index, as the arm compares them.
abbrev Alike : (ℕ → ℕ) → (ℕ → ℕ) → Bool
Alike f g =
    nat_eq (f 0) (g 0) && nat_eq (f 1) (g 1) && nat_eq (f 2) (g 2) && nat_eq (f 3) (g 3) && nat_eq (f 4) (g 4)
    && nat_eq (f 5) (g 5) && nat_eq (f 6) (g 6) && nat_eq (f 7) (g 7) && nat_eq (f 8) (g 8)

alike_same : (f g : ℕ → ℕ) → Alike f g ≡ true → upto 9 f ≡ upto 9 g
alike_same f g is = grind arith

alike_itself : (f : ℕ → ℕ) → Alike f f ≡ true
alike_itself f = grind arith

-- The arm of nine octets in `oid` and nine in `other`: the result is whether each is equal.
pub returns-in-len9-other : goal.returns-in-len9-other
returns-in-len9-other c =
    let a = c.args.oid.now in
    let b = c.args.other.now in
    let first : length a ≡ 9 = omega arith in
    let second : length b ≡ 9 = omega arith in (
      λ is. nine_octets_upto a first ∙ alike_same (slice_index a) (slice_index b) is ∙ sym (nine_octets_upto b second),
      λ same. subst (λ l. Alike (slice_index a) (slice_index l) ≡ true) same (alike_itself (slice_index a)),
    )
