-- Masks number the spellings of a value: there are two to the number of its defaults.
use Rattle.std.proofs.Common.{ℕ, suc, List, [], ◌∷◌, ◌++◌, ◌≡◌, ◌<◌, ◌≤◌, ◌+◌, ◌*◌, ◌^◌, length, map, refl, sym, ap, ◌∙◌, arith, inl, inr, true, false, Some, None, length-append, ◌==◌, ◌%◌, ◌/◌}
use Rattle.std.proofs.Math.Nat.{pow-suc}
use Rattle.std.proofs.lemmas.Bool.{cases_Bool, false_from_ne_true}
use Rattle.std.specs.List.{concat}
use Rattle.der_core.specs.Words.{nat_tests}
use Rattle.spki_core.specs.FieldSpellings.{AreLawful, AreSpelled, AreValid, Kind, Spelling, Values, field_printed, fields_of, mask_of, number_of_defaults, spelling_means, spelling_printed, spelling_under}
use Rattle.standard.specs.Statement.{Defaults, Field, FieldsUnder}

two_pow : (d : ℕ) → 2 ^ (d + 1) ≡ 2 ^ d * 2
two_pow d = let e : d + 1 ≡ suc d = omega arith in rw e (pow-suc 2 d)

-- A field under a mask: its default, which is left out or there, or another value.
pub by_field : (k : Kind) (ks : List Kind) (mask : ℕ) (x : k.Value) (v : Values ks) (P : Spelling (k ∷ ks) → Type 0)
    → (k.is_default x ≡ true → (mask % 2 == 0) ≡ true → P (None, spelling_under ks (mask / 2) v))
    → (k.is_default x ≡ true → (mask % 2 == 0) ≡ false → P (Some x, spelling_under ks (mask / 2) v))
    → (k.is_default x ≡ false → P (Some x, spelling_under ks mask v))
    → P (spelling_under (k ∷ ks) mask (x, v))
by_field k ks mask x v P out there other = elim (cases_Bool (k.is_default x)) [
  | inl is ↦ rw is (elim (cases_Bool (mask % 2 == 0)) [
    | inl even ↦ rw even (out is even)
    | inr odd ↦ rw odd (there is odd)
  ])
  | inr isnt ↦ rw isnt (other isnt)
]

pub under_means : (ks : List Kind) (n : ℕ) → AreLawful n ks → (mask : ℕ) (v : Values ks)
    → spelling_means ks (spelling_under ks mask v) ≡ v
under_means [] n law mask v = refl
under_means (k ∷ ks) n law mask (x, v) =
    let later = λ (m : ℕ). under_means ks (k.number + 1) law.4 m v in
    by_field k ks mask x v (λ s. spelling_means (k ∷ ks) s ≡ (x, v))
    (λ is even i. (sym ((law.2 x).0 is) i, later (mask / 2) i))
    (λ is odd i. (x, later (mask / 2) i)) (λ isnt i. (x, later mask i))

pub under_valid : (ks : List Kind) (mask : ℕ) (v : Values ks) → AreValid ks v → AreSpelled ks (spelling_under ks mask v)
under_valid [] mask v ok = tt
under_valid (k ∷ ks) mask (x, v) ok =
    let later = λ (m : ℕ). under_valid ks m v ok.1 in
    by_field k ks mask x v (AreSpelled (k ∷ ks)) (λ is even. (tt, later (mask / 2)))
    (λ is odd. (ok.0, later (mask / 2))) (λ isnt. (ok.0, later mask))

pub under_mask : (ks : List Kind) (n : ℕ) → AreLawful n ks → (mask : ℕ) (v : Values ks)
    → mask < 2 ^ number_of_defaults ks v
    → mask_of ks (spelling_under ks mask v) ≡ mask
under_mask [] n law mask v less = omega arith
under_mask (k ∷ ks) n law mask (x, v) less =
    let later = λ (m : ℕ). under_mask ks (k.number + 1) law.4 m v in
    let half = λ (is : k.is_default x ≡ true).
    let below : mask < 2 ^ (number_of_defaults ks v + 1) = rw is at less in
    later (mask / 2) (omega (arith, two_pow (number_of_defaults ks v))) in
    by_field k ks mask x v (λ s. mask_of (k ∷ ks) s ≡ mask) (λ is even. grind (arith, nat_tests, half is))
    (λ is odd. rw is (grind (arith, nat_tests, half is))) (λ isnt. rw isnt (later mask (rw isnt at less)))

-- The mask of a spelling is below two to the defaults, gives the spelling back, and is what `Statement.antt` calls so.
pub spelling_masked : (ks : List Kind) (n : ℕ) → AreLawful n ks → (s : Spelling ks)
    → (mask_of ks s < 2 ^ number_of_defaults ks (spelling_means ks s))
    × (spelling_under ks (mask_of ks s) (spelling_means ks s) ≡ s)
    × FieldsUnder (mask_of ks s) (fields_of ks (spelling_means ks s)) (spelling_printed ks s)
spelling_masked [] n law s = (omega arith, refl, (refl, refl))
spelling_masked (k ∷ ks) n law (None, s) =
    let (less, same, fields) = spelling_masked ks (k.number + 1) law.4 s in
    let m = mask_of ks s in
    let is : k.is_default k.default ≡ true = (law.2 k.default).1 refl in
    let even : ((2 * m) % 2 == 0) ≡ true = grind (arith, nat_tests) in
    let half : (2 * m) / 2 ≡ m = omega arith in
    let below : 2 * m < 2 ^ (number_of_defaults ks (spelling_means ks s) + 1) = omega
    (arith, less, two_pow (number_of_defaults ks (spelling_means ks s))) in
    rw (is, even, half) (below, (λ i. (None, same i)), inl (refl, m, refl, fields))
spelling_masked (k ∷ ks) n law (Some x, s) =
    let (less, same, fields) = spelling_masked ks (k.number + 1) law.4 s in
    let m = mask_of ks s in
    elim (cases_Bool (k.is_default x)) [
      | inl is ↦
          let odd : ((2 * m + 1) % 2 == 0) ≡ false = grind (arith, nat_tests) in
          let half : (2 * m + 1) / 2 ≡ m = omega arith in
          let below : 2 * m + 1 < 2 ^ (number_of_defaults ks (spelling_means ks s) + 1) =
          omega (arith, two_pow (number_of_defaults ks (spelling_means ks s))) in
          rw (is, odd, half) (
            below,
            (λ i. (Some x, same i)),
            inr (inl ((law.2 x).0 is, m, refl, spelling_printed ks s, refl, fields)),
          )
      | inr isnt ↦
          let other : x ≡ k.default → ⊥ = λ d. let is = (law.2 x).1 d in cc in
          rw isnt (less, (λ i. (Some x, same i)), inr (inr (other, spelling_printed ks s, refl, fields)))
    ]

-- And such fields are a spelling.
fields_masked : (ks : List Kind) (n : ℕ) → AreLawful n ks → (mask : ℕ) (v : Values ks) (c : List ℕ)
    → FieldsUnder mask (fields_of ks v) c
    → (s : Spelling ks) × (spelling_means ks s ≡ v) × (mask_of ks s ≡ mask) × (c ≡ spelling_printed ks s)
fields_masked [] n law mask v c p = (tt, refl, sym p.1, p.0)
fields_masked (k ∷ ks) n law mask (x, v) c (inl (d, half, is, p)) =
    let (s, e, m, same) = fields_masked ks (k.number + 1) law.4 half v c p in
    ((None, s), (λ i. (sym d i, e i)), omega arith, same)
fields_masked (k ∷ ks) n law mask (x, v) c (inr (inl (d, half, is, later, split, p))) =
    let (s, e, m, same) = fields_masked ks (k.number + 1) law.4 half v later p in
    let yes : k.is_default x ≡ true = (law.2 x).1 d in
    ((Some x, s), (λ i. (x, e i)), rw yes (omega arith), split ∙ ap (λ z. field_printed k x ++ z) same)
fields_masked (k ∷ ks) n law mask (x, v) c (inr (inr (other, later, split, p))) =
    let (s, e, m, same) = fields_masked ks (k.number + 1) law.4 mask v later p in
    let no : k.is_default x ≡ false = false_from_ne_true _ (λ is. other ((law.2 x).0 is)) in
    ((Some x, s), (λ i. (x, e i)), rw no m, split ∙ ap (λ z. field_printed k x ++ z) same)

pub under_is : (ks : List Kind) (n : ℕ) → AreLawful n ks → (mask : ℕ) (v : Values ks)
    → mask < 2 ^ number_of_defaults ks v
    → FieldsUnder mask (fields_of ks v) (spelling_printed ks (spelling_under ks mask v))
under_is ks n law mask v less =
    rw (under_mask ks n law mask v less, under_means ks n law mask v) at
    (spelling_masked ks n law (spelling_under ks mask v)).2

pub under_only : (ks : List Kind) (n : ℕ) → AreLawful n ks → (mask : ℕ) (v : Values ks) (c : List ℕ)
    → FieldsUnder mask (fields_of ks v) c → (mask < 2 ^ number_of_defaults ks v)
    × (c ≡ spelling_printed ks (spelling_under ks mask v))
under_only ks n law mask v c p =
    let (s, e, m, same) = fields_masked ks n law mask v c p in
    let (less, back, fields) = spelling_masked ks n law s in
    (rw (m, e) at less, same ∙ ap (spelling_printed ks) (sym (rw (m, e) at back)))

-- The number of defaults is what `Statement.antt` says.
pub defaults_are : (ks : List Kind) (n : ℕ) → AreLawful n ks → (v : Values ks) (k : ℕ) → Defaults (fields_of ks v) k
    → k ≡ number_of_defaults ks v
defaults_are [] n law v k p = p
defaults_are (d ∷ ks) n law (x, v) k (inl (e, j, is, p)) =
    let yes : d.is_default x ≡ true = (law.2 x).1 e in
    let same = defaults_are ks (d.number + 1) law.4 v j p in rw yes (omega arith)
defaults_are (d ∷ ks) n law (x, v) k (inr (other, p)) =
    let no : d.is_default x ≡ false = false_from_ne_true _ (λ is. other ((law.2 x).0 is)) in
    rw no (defaults_are ks (d.number + 1) law.4 v k p)

pub defaults_there : (ks : List Kind) (n : ℕ) → AreLawful n ks → (v : Values ks)
    → Defaults (fields_of ks v) (number_of_defaults ks v)
defaults_there [] n law v = refl
defaults_there (k ∷ ks) n law (x, v) =
    let later = defaults_there ks (k.number + 1) law.4 v in
    elim (cases_Bool (k.is_default x)) [
      | inl is ↦ rw is (inl ((law.2 x).0 is, number_of_defaults ks v, refl, later))
      | inr isnt ↦ rw isnt (inr ((λ d. let is = (law.2 x).1 d in cc), later))
    ]

-- The contents in which every field is there: no spelling is longer.
abbrev pub full : (ks : List Kind) → Values ks → List ℕ
full ks v = concat (map (λ (f : Field). f.written) (fields_of ks v))

pub full_last : (ks : List Kind) (s : Spelling ks)
    → length (spelling_printed ks s) ≤ length (full ks (spelling_means ks s))
full_last [] s = omega arith
full_last (k ∷ ks) (None, s) =
    omega (arith, full_last ks s, length-append (field_printed k k.default) (full ks (spelling_means ks s)))
full_last (k ∷ ks) (Some x, s) =
    let front = length-append (field_printed k x) in
    omega (arith, full_last ks s, front (spelling_printed ks s))

-- It stands under the greatest mask.
pub full_there : (ks : List Kind) (v : Values ks) (mask : ℕ) → mask + 1 ≡ 2 ^ number_of_defaults ks v
    → spelling_printed ks (spelling_under ks mask v) ≡ full ks v
full_there [] v mask is = refl
full_there (k ∷ ks) (x, v) mask is =
    let later =
    λ (m : ℕ) (e : m + 1 ≡ 2 ^ number_of_defaults ks v). ap (λ z. field_printed k x ++ z) (full_there ks v m e) in
    let whole = λ (d : k.is_default x ≡ true).
    let e : mask + 1 ≡ 2 ^ (number_of_defaults ks v + 1) = rw d at is in e ∙ two_pow (number_of_defaults ks v) in
    by_field k ks mask x v (λ s. spelling_printed (k ∷ ks) s ≡ full (k ∷ ks) (x, v))
    (λ d even. absurd (grind (arith, nat_tests)))
    (λ d odd. later (mask / 2) (grind (arith, nat_tests, whole d))) (λ other. later mask (rw other at is))
