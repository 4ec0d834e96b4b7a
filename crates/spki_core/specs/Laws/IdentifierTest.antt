-- The test for the contents of an identifier is exact.
use Rattle.std.proofs.Common.{Bool, ◌⊎◌, true, false, not, ◌&&◌, ◌==◌, nat_lt, ℕ, List, [], ◌∷◌, ◌++◌, ◌≡◌, ◌≢◌, ◌<◌, ◌≤◌, length, slice_index, refl, sym, ap, ◌∙◌, arith, append_assoc, length-append, inl, inr}
use Rattle.std.proofs.lemmas.Bool.{and_parts, cases_Bool}
use Rattle.der_core.specs.Words.{nat_tests, AreBytes}
use Rattle.std.specs.List.{AllByRecursion, concat}
use Rattle.spki_core.specs.Identifiers.{IsIdentifier}
use Rattle.spki_core.specs.IdentifierTest.{ends_well, is_identifier}

-- Octets that go on.
abbrev AreInner : List ℕ → Type 0
AreInner front = AllByRecursion (λ b. (128 ≤ b) × (b < 256)) front

-- One of those that `IsIdentifier` asks for.
abbrev IsSubidentifier : List ℕ → Type 0
IsSubidentifier id =
    (front : List ℕ) × (last : ℕ) × (id ≡ front ++ last ∷ []) × AreInner front × (last < 128) × (slice_index id 0 ≢ 128)

-- The octets are whole subidentifiers.
abbrev AreSubidentifiers : List ℕ → Type 0
AreSubidentifiers c = (subs : List (List ℕ)) × AllByRecursion IsSubidentifier subs × (c ≡ concat subs)

-- The octets are the rest of a subidentifier, and whole ones behind it.
abbrev AreRestOfSubidentifiers : List ℕ → Type 0
AreRestOfSubidentifiers c = (front : List ℕ) × (last : ℕ) × (c' : List ℕ) × AreSubidentifiers c' × AreInner front × (last < 128) × (c ≡ front ++ last ∷ c')

-- From an octet that isn't 128 on, the rest of one is a whole one.
first_octet_kept : (front : List ℕ) (last : ℕ) (x y : List ℕ) → slice_index (front ++ last ∷ x) 0 ≡ slice_index (front ++ last ∷ y) 0
first_octet_kept [] last x y = refl
first_octet_kept (b ∷ front) last x y = refl

subidentifiers_of_rest : (c : List ℕ) → slice_index c 0 ≢ 128 → AreRestOfSubidentifiers c → AreSubidentifiers c
subidentifiers_of_rest c other (front, last, c', p, all, low, is) = (
  (front ++ last ∷ []) ∷ p.0,
  (
    (front, last, refl, all, low, λ h. other (ap (λ l. slice_index l 0) is ∙ first_octet_kept front last c' [] ∙ h)),
    p.1,
  ),
  is ∙ ap (λ l. front ++ last ∷ l) p.2 ∙ sym (append_assoc front (last ∷ []) (concat p.0)),
)

identifier_cut : (c : List ℕ) → AreBytes c
    → (ends_well true c ≡ true → AreSubidentifiers c) × (ends_well false c ≡ true → AreRestOfSubidentifiers c)
identifier_cut [] o = (λ e. ([], tt, refl), λ e. cc)
identifier_cut (b ∷ bs) o =
    let ih = identifier_cut bs o.1 in
    let rest : ends_well (nat_lt b 128) bs ≡ true
    → AreRestOfSubidentifiers (b ∷ bs) = elim (cases_Bool (nat_lt b 128)) [
      | inl small ↦ λ e.
          let low : b < 128 = grind (arith, nat_tests) in
          ([], b, bs, ih.0 (rw small at e), tt, low, refl)
      | inr large ↦ λ e.
          let high : 128 ≤ b = grind (arith, nat_tests) in
          let r = ih.1 (rw large at e) in
          (b ∷ r.0, r.1, r.2, r.3, ((high, o.0), r.4), r.5, ap (λ l. b ∷ l) r.6)
    ] in (
      λ e.
          let t = and_parts (not (b == 128)) (ends_well (nat_lt b 128) bs) e in
          let other : b ≢ 128 = grind (arith, nat_tests) in
          subidentifiers_of_rest (b ∷ bs) other (rest t.1),
      rest,
    )

-- A subidentifier ends well, whatever follows.
rest_of_subidentifier_ends_well : (front : List ℕ) (last : ℕ) (rest : List ℕ) → AreInner front → last < 128
    → ends_well false (front ++ last ∷ rest) ≡ ends_well true rest
rest_of_subidentifier_ends_well [] last rest all low =
    let small : nat_lt last 128 ≡ true = grind (arith, nat_tests) in rw small refl
rest_of_subidentifier_ends_well (b ∷ front) last rest all low =
    let large : nat_lt b 128 ≡ false = grind (arith, nat_tests) in
    rw large (rest_of_subidentifier_ends_well front last rest all.1 low)

-- An octet other than 128 goes on alike from the start and from within.
pub ends_well_goes_on : (start : Bool) (b : ℕ) (bs : List ℕ) → (start ≡ false) ⊎ (b ≢ 128)
    → ends_well start (b ∷ bs) ≡ ends_well (nat_lt b 128) bs
ends_well_goes_on start b bs (inl within) = rw within refl
ends_well_goes_on true b bs (inr other) = let no : (b == 128) ≡ false = grind arith in rw no refl
ends_well_goes_on false b bs (inr other) = refl

subidentifier_ends_well : (front : List ℕ) (last : ℕ) (rest : List ℕ) → AreInner front → last < 128
    → slice_index (front ++ last ∷ []) 0 ≢ 128 → ends_well true (front ++ last ∷ rest) ≡ ends_well true rest
subidentifier_ends_well [] last rest all low other =
    ends_well_goes_on true last rest (inr other) ∙ rest_of_subidentifier_ends_well [] last rest all low
subidentifier_ends_well (b ∷ front) last rest all low other =
    ends_well_goes_on true b (front ++ last ∷ rest) (inr other)
    ∙ rest_of_subidentifier_ends_well (b ∷ front) last rest all low

subidentifiers_end_well : (subs : List (List ℕ)) → AllByRecursion IsSubidentifier subs
    → ends_well true (concat subs) ≡ true
subidentifiers_end_well [] all = refl
subidentifiers_end_well (s ∷ subs) ((front, last, whole, inner, low, least), all) =
    rw (whole, append_assoc front (last ∷ []) (concat subs))
    (subidentifier_ends_well front last (concat subs) inner low (rw whole at least) ∙ subidentifiers_end_well subs all)

-- The test is exact, for octets.
pub is_identifier-sound : (c : List ℕ) → AreBytes c → is_identifier c ≡ true → IsIdentifier c
is_identifier-sound c o e =
    let t = and_parts (nat_lt 0 (length c) && nat_lt (length c) 40) (ends_well true c) e in
    let u = and_parts (nat_lt 0 (length c)) (nat_lt (length c) 40) t.0 in
    let some : 0 < length c = grind (arith, nat_tests) in
    let short : length c ≤ 39 = grind (arith, nat_tests) in
    let p = (identifier_cut c o).0 t.1 in
    (p.0, count p.0 p.2 some, p.1, p.2, short)
  where
    count : (subs : List (List ℕ)) → c ≡ concat subs → 0 < length c → 0 < length subs
    count [] h l = omega (arith, ap length h)
    count (s ∷ subs) h l = omega arith

pub is_identifier-complete : (c : List ℕ) → IsIdentifier c → is_identifier c ≡ true
is_identifier-complete c (ids, many, each, joined, short) =
    let ends : ends_well true c ≡ true = rw joined (subidentifiers_end_well ids each) in
    let some : 0 < length c = count ids many each joined in
    let a : nat_lt 0 (length c) ≡ true = grind (arith, nat_tests) in
    let b : nat_lt (length c) 40 ≡ true = grind (arith, nat_tests) in
    rw (a, b, ends) refl
  where
    count : (subs : List (List ℕ)) → 0 < length subs → AllByRecursion IsSubidentifier subs → c ≡ concat subs
        → 0 < length c
    count [] l all h = absurd (omega arith)
    count (s ∷ subs) l ((front, last, whole, inner, low, least), all) h =
        omega (arith, ap length h, ap length whole, length-append s (concat subs), length-append front (last ∷ []))
