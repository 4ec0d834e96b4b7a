-- Steps of the test for identifiers: for `ends_well` and `of` of `src/object_identifier.rt`.
use Rattle.std.proofs.Common.{Bool, true, false, nat_lt, ℕ, zero, suc, List, [], ◌∷◌, ◌≡◌, ◌≢◌, ◌<◌, ◌≤◌, ◌+◌, ◌-◌, ◌⊎◌, inr, length, take, drop, get_or, slice_index, refl, ap, ◌∙◌, arith}
use Rattle.std.proofs.lemmas.List.{at_drop_more}
use Rattle.spki_core.specs.Words.{ends_well, ends_well_goes_on, has_no_128, starts_at}

-- Whether a subidentifier starts at the next octet is told by this one.
starts_at_next : (c : List ℕ) (i : ℕ) → nat_lt (get_or c i 0) 128 ≡ starts_at c (i + 1)
starts_at_next c i = let more : i + 1 ≡ suc i = omega arith in rw more refl

-- One octet more was looked at.
pub ends_well_next : (c : List ℕ) (i : ℕ) → i < length c → (starts_at c i ≡ false) ⊎ (get_or c i 0 ≢ 128)
    → ends_well true c ≡ ends_well (starts_at c i) (drop i c)
    → ends_well true c ≡ ends_well (starts_at c (i + 1)) (drop (i + 1) c)
ends_well_next c i l h is =
    is ∙ at_drop_more (ends_well (starts_at c i)) c i 0 l
    ∙ ends_well_goes_on (starts_at c i) (get_or c i 0) (drop (i + 1) c) h
    ∙ ap (λ s. ends_well s (drop (i + 1) c)) (starts_at_next c i)

-- Octets without 128 end well, if the last one is below it.
ends_well_plain_from : (s : Bool) (n : ℕ) (c : List ℕ) → length c ≡ suc n → has_no_128 (take n c) ≡ true
    → slice_index c n < 128
    → ends_well s c ≡ true
ends_well_plain_from s n [] e h l = grind arith
ends_well_plain_from true zero (b ∷ []) e h l = grind arith
ends_well_plain_from false zero (b ∷ []) e h l = grind arith
ends_well_plain_from s zero (b ∷ x ∷ xs) e h l = grind arith
ends_well_plain_from s (suc n) (b ∷ bs) e h l =
    let differs : b ≢ 128 = grind arith in
    let later : has_no_128 (take n bs) ≡ true = grind arith in
    ends_well_goes_on s b bs (inr differs) ∙ ends_well_plain_from (nat_lt b 128) n bs (omega arith) later l

pub ends_well_plain : (c : List ℕ) → 1 ≤ length c → has_no_128 (take (length c - 1) c) ≡ true
    → slice_index c (length c - 1) < 128 → ends_well true c ≡ true
ends_well_plain c some h l = ends_well_plain_from true (length c - 1) c (omega arith) h l

-- What is taken of octets are octets.
pub taken_bytes : (n : ℕ) (xs : List ℕ) → ((i : ℕ) → slice_index xs i < 256) → (i : ℕ) → slice_index (take n xs) i < 256
taken_bytes zero xs h i = omega arith
taken_bytes (suc n) [] h i = h i
taken_bytes (suc n) (x ∷ xs) h zero = h 0
taken_bytes (suc n) (x ∷ xs) h (suc i) = taken_bytes n xs (λ k. h (suc k)) i
