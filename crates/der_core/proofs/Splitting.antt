-- Where an encoding ends: what is split off is what the functions of reading give, and so is what is read of it. For
-- `src/split.rt`, for `read_tagged`, and for encodings of any tag.
use Rattle.std.proofs.Common.{ℕ, suc, true, false, List, [], ◌∷◌, ◌≡◌, ◌≤◌, ◌<◌, ◌-◌, ◌+◌, ◌*◌, length, take, drop, refl, sym, ap, ◌∙◌, arith, Ok, Option, Some, None, slice_index_or, take_all, ⊎_elim, nat_lt, ◌==◌, MatchOption, IfSome}
use Rattle.der_core.specs.Words.{number_from_digits, Tag, front_of, header_at, length_at, ok_pair, cond_cases, length_at-complete, bind_ok, unexpected_not, IsBase256, IsLength, short, long, Reading, ◌>>=◌, by_tag, contents_behind, inside, octets_of_all, tagged, is_allowed}
use Rattle.std.specs.List.{IsSplitAt}

-- Length octets: one, and one or two behind the first.
pub length_at_one_octet : (b rest : List ℕ) (n : ℕ) → 1 ≤ length b → n ≡ slice_index_or b 0 0
    → slice_index_or b 0 0 < 128
    → rest ≡ take (length b - 1) (drop 1 b) → length_at b ≡ Ok (n, rest)
length_at_one_octet [] rest n l is small r = absurd (omega arith)
length_at_one_octet (x ∷ xs) rest n l is small r =
    let all : take (length (x ∷ xs) - 1) xs ≡ xs = take_all _ xs (omega arith) in
    rw (is, r, all) (length_at-complete x (x ∷ []) xs (short small refl) (omega arith))

pub length_at_two_octets : (b rest : List ℕ) (n : ℕ) → 2 ≤ length b → ((i : ℕ) → slice_index_or b i 0 < 256)
    → slice_index_or b 0 0 ≡ 129 → 128 ≤ slice_index_or b 1 0 → n ≡ slice_index_or b 1 0
    → rest ≡ take (length b - 2) (drop 2 b) → length_at b ≡ Ok (n, rest)
length_at_two_octets [] rest n l bytes f high is r = absurd (omega arith)
length_at_two_octets (x ∷ []) rest n l bytes f high is r = absurd (omega arith)
length_at_two_octets (x ∷ y ∷ ys) rest n l bytes f high is r =
    let all : take (length (x ∷ y ∷ ys) - 2) ys ≡ ys = take_all _ ys (omega arith) in
    let value : number_from_digits 256 (y ∷ []) ≡ y = omega arith in
    let base : IsBase256 y (y ∷ []) =
    record { bytes = (bytes 1, tt); value = value; no_leading_zero = omega arith } in
    let counted : IsLength y (129 ∷ y ∷ []) = long (y ∷ []) high (omega arith) base refl in
    rw (f, is, r, all) (length_at-complete y (129 ∷ y ∷ []) ys counted (omega (arith, bytes 1)))

pub length_at_three_octets : (b rest : List ℕ) (n : ℕ) → 3 ≤ length b → ((i : ℕ) → slice_index_or b i 0 < 256)
    → slice_index_or b 0 0 ≡ 130 → 0 < slice_index_or b 1 0
    → n ≡ slice_index_or b 1 0 * 256 + slice_index_or b 2 0
    → rest ≡ take (length b - 3) (drop 3 b) → length_at b ≡ Ok (n, rest)
length_at_three_octets [] rest n l bytes f high is r = absurd (omega arith)
length_at_three_octets (x ∷ []) rest n l bytes f high is r = absurd (omega arith)
length_at_three_octets (x ∷ y ∷ []) rest n l bytes f high is r = absurd (omega arith)
length_at_three_octets (x ∷ y ∷ z ∷ zs) rest n l bytes f high is r =
    let all : take (length (x ∷ y ∷ z ∷ zs) - 3) zs ≡ zs = take_all _ zs (omega arith) in
    let value : number_from_digits 256 (y ∷ z ∷ []) ≡ y * 256 + z = omega arith in
    let base : IsBase256 (y * 256 + z) (y ∷ z ∷ []) =
    record { bytes = (bytes 1, (bytes 2, tt)); value = value; no_leading_zero = high } in
    let counted : IsLength (y * 256 + z) (130 ∷ y ∷ z ∷ []) =
    long (y ∷ z ∷ []) (omega arith) (omega arith) base refl in
    rw (f, is, r, all)
    (length_at-complete (y * 256 + z) (130 ∷ y ∷ z ∷ []) zs counted (omega (arith, bytes 1, bytes 2)))

-- A tag, a length, and contents that are split there.
header_at_length : (t n : ℕ) (b rest : List ℕ) → is_allowed t ≡ true → length_at b ≡ Ok (n, rest)
    → header_at (t ∷ b) ≡ Ok ((t, n), rest)
unfolding header_at
header_at_length t n b rest allowed read = rw (allowed, read) refl

-- The contents are split off.
split_there : (tag : Tag) (n : ℕ) (b front back : List ℕ) → IsSplitAt b n front back
    → contents_behind tag ((tag.octet, n), b) ≡ Ok (front, back)
split_there tag n b front back (within, is_front, is_back, front_len, back_len) =
    let is : (tag.octet == tag.octet) ≡ true = grind arith in
    let enough : nat_lt (length b) n ≡ false = grind arith in
    rw (is, enough) (ap (λ x. Ok (x, drop n b)) (sym is_front) ∙ ap (λ y. Ok (front, y)) (sym is_back))

-- So a whole encoding is read at the front.
tag_in_front : (tag : Tag) (n : ℕ) (b behind rest front back : List ℕ) → 1 ≤ length b
    → slice_index_or b 0 0 ≡ tag.octet → behind ≡ take (length b - 1) (drop 1 b) → length_at behind ≡ Ok (n, rest)
    → IsSplitAt rest n front back → tagged tag octets_of_all b ≡ Ok (front, back)
tag_in_front tag n [] behind rest front back l t is read s = absurd (omega arith)
tag_in_front tag n (x ∷ xs) behind rest front back l t is read s =
    let all : take (length (x ∷ xs) - 1) xs ≡ xs = take_all _ xs (omega arith) in
    let read_there : length_at xs ≡ Ok (n, rest) = rw (is ∙ all) at read in
    let header : header_at (x ∷ xs) ≡ Ok ((tag.octet, n), rest) =
    rw t (header_at_length tag.octet n xs rest tag.allowed read_there) in
    ap (λ r. r >>= λ h. contents_behind tag h >>= inside octets_of_all) header
    ∙ ap (λ r. r >>= inside octets_of_all) (split_there tag n rest front back s)

module _ {X : Type 0} (none : Type 0) (front back : X → List ℕ) (tag : Tag) where
  -- The same of a call that may give nothing.
  split_found : (n : ℕ) (b behind rest : List ℕ) → 1 ≤ length b → slice_index_or b 0 0 ≡ tag.octet
      → behind ≡ take (length b - 1) (drop 1 b) → length_at behind ≡ Ok (n, rest) → (r : Option X)
      → MatchOption r none (λ p. IsSplitAt rest n (front p) (back p))
      → IfSome r (λ p. tagged tag octets_of_all b ≡ Ok (front p, back p))
  split_found n b behind rest l t is read None s = tt
  split_found n b behind rest l t is read (Some p) s = tag_in_front tag n b behind rest (front p) (back p) l t is read s

  -- The length is one octet; or it stands in one behind the first, or in two.
  pub short_found : (b : List ℕ) → 2 ≤ length b → slice_index_or b 0 0 ≡ tag.octet → slice_index_or b 1 0 < 128
      → (r : Option X)
      → MatchOption r none (λ p. IsSplitAt (take (length b - 2) (drop 2 b)) (slice_index_or b 1 0) (front p) (back p))
      → IfSome r (λ p. tagged tag octets_of_all b ≡ Ok (front p, back p))
  short_found [] l t small r s = absurd (omega arith)
  short_found (x ∷ []) l t small r s = absurd (omega arith)
  short_found (x ∷ y ∷ ys) l t small r s =
      let all : take (length (x ∷ y ∷ ys) - 1) (y ∷ ys) ≡ y ∷ ys = take_all _ (y ∷ ys) (omega arith) in
      let same : take (length (x ∷ y ∷ ys) - 2) ys ≡ take (length (y ∷ ys) - 1) ys =
      take_all _ ys (omega arith) ∙ sym (take_all _ ys (omega arith)) in
      split_found y (x ∷ y ∷ ys) (y ∷ ys) (take (length (x ∷ y ∷ ys) - 2) ys) (omega arith) t (sym all)
      (length_at_one_octet (y ∷ ys) _ y (omega arith) refl small same) r s

  pub two_found : (b c : List ℕ) → 2 ≤ length b → ((i : ℕ) → slice_index_or b i 0 < 256)
      → slice_index_or b 0 0 ≡ tag.octet → c ≡ take (length b - 2) (drop 2 b) → 1 ≤ length c
      → slice_index_or b 1 0 ≡ 129 → 128 ≤ slice_index_or c 0 0 → (r : Option X)
      → MatchOption r none (λ p. IsSplitAt (take (length c - 1) (drop 1 c)) (slice_index_or c 0 0) (front p) (back p))
      → IfSome r (λ p. tagged tag octets_of_all b ≡ Ok (front p, back p))
  two_found [] c l bytes t is m f high r s = absurd (omega arith)
  two_found (x ∷ []) c l bytes t is m f high r s = absurd (omega arith)
  two_found (x ∷ y ∷ ys) c l bytes t is m f high r s =
      let whole : c ≡ ys = is ∙ take_all _ ys (omega arith) in
      let all : take (length (x ∷ y ∷ ys) - 1) (y ∷ ys) ≡ y ∷ ys = take_all _ (y ∷ ys) (omega arith) in
      let some : 1 ≤ length ys = omega (arith, ap length whole) in
      let same : take (length c - 1) (drop 1 c) ≡ take (length (y ∷ ys) - 2) (drop 1 ys) =
      rw whole (ap (λ k. take k (drop 1 ys)) (omega arith)) in
      split_found (slice_index_or c 0 0) (x ∷ y ∷ ys) (y ∷ ys) (take (length c - 1) (drop 1 c)) (omega arith) t (sym all)
      (length_at_two_octets (y ∷ ys) _ (slice_index_or c 0 0) (omega arith) (λ i. bytes (suc i)) f
      (rw whole at high)
      (ap (λ z. slice_index_or z 0 0) whole) same) r s

  pub three_found : (b c : List ℕ) → 2 ≤ length b → ((i : ℕ) → slice_index_or b i 0 < 256)
      → slice_index_or b 0 0 ≡ tag.octet → c ≡ take (length b - 2) (drop 2 b) → 2 ≤ length c
      → slice_index_or b 1 0 ≡ 130 → 0 < slice_index_or c 0 0 → (r : Option X)
      → MatchOption r none (λ p. IsSplitAt (take (length c - 2) (drop 2 c))
      (slice_index_or c 0 0 * 256 + slice_index_or c 1 0) (front p) (back p))
      → IfSome r (λ p. tagged tag octets_of_all b ≡ Ok (front p, back p))
  three_found [] c l bytes t is m f high r s = absurd (omega arith)
  three_found (x ∷ []) c l bytes t is m f high r s = absurd (omega arith)
  three_found (x ∷ y ∷ ys) c l bytes t is m f high r s =
      let whole : c ≡ ys = is ∙ take_all _ ys (omega arith) in
      let all : take (length (x ∷ y ∷ ys) - 1) (y ∷ ys) ≡ y ∷ ys = take_all _ (y ∷ ys) (omega arith) in
      let some : 2 ≤ length ys = omega (arith, ap length whole) in
      let same : take (length c - 2) (drop 2 c) ≡ take (length (y ∷ ys) - 3) (drop 2 ys) =
      rw whole (ap (λ k. take k (drop 2 ys)) (omega arith)) in
      split_found _ (x ∷ y ∷ ys) (y ∷ ys) (take (length c - 2) (drop 2 c)) (omega arith) t (sym all)
      (length_at_three_octets (y ∷ ys) _ _ (omega arith) (λ i. bytes (suc i)) f (rw whole at high)
      (ap (λ z. slice_index_or z 0 0 * 256 + slice_index_or z 1 0) whole) same) r s

-- The contents are read as a value.
pub read_inside : {V : Type 0} (tag : Tag) (read : Reading V) (b front back : List ℕ) (v : V)
    → tagged tag octets_of_all b ≡ Ok (front, back) → read front ≡ Ok v → tagged tag read b ≡ Ok (v, back)
read_inside tag read b front back v e given =
    let s = bind_ok (header_at b) (λ h. contents_behind tag h >>= inside octets_of_all) e in
    let u = bind_ok (contents_behind tag s.0) (inside octets_of_all) s.2 in
    let same = ok_pair u.0.0 front u.0.1 back u.2 in
    ap (λ r. r >>= λ h. contents_behind tag h >>= inside read) s.1 ∙ ap (λ r. r >>= inside read) u.1
    ∙ ap (λ x. read x >>= λ w. Ok (w, u.0.1)) same.0 ∙ ap (λ r. r >>= λ w. Ok (w, u.0.1)) given
    ∙ ap (λ y. Ok (v, y)) same.1

-- The same where the tag's octet tells how they are read.
tag_there : (tag : Tag) (h : (ℕ × ℕ) × List ℕ) (p : List ℕ × List ℕ) → contents_behind tag h ≡ Ok p
    → (h.0.0 ≡ tag.octet) × (front_of h.0.1 h.1 ≡ Ok p)
tag_there tag h p e =
    ⊎_elim (λ w. let same : h.0.0 ≡ tag.octet = grind arith in (same, w.1))
    (λ w. absurd (unexpected_not tag h.0.0 p w.1)) (cond_cases (h.0.0 == tag.octet) _ _ _ e)

pub read_by_tag : {V : Type 0} (tag : Tag) (read : ℕ → Reading V) (b front back : List ℕ) (v : V)
    → tagged tag octets_of_all b ≡ Ok (front, back) → read tag.octet front ≡ Ok v → by_tag read b ≡ Ok (v, back)
read_by_tag tag read b front back v e given =
    let s = bind_ok (header_at b) (λ h. contents_behind tag h >>= inside octets_of_all) e in
    let u = bind_ok (contents_behind tag s.0) (inside octets_of_all) s.2 in
    let same = ok_pair u.0.0 front u.0.1 back u.2 in
    let there = tag_there tag s.0 u.0 u.1 in
    ap (λ r. r >>= λ h. front_of h.0.1 h.1 >>= inside (read h.0.0)) s.1
    ∙ ap (λ r. r >>= inside (read s.0.0.0)) there.1
    ∙ ap (λ t. read t u.0.0 >>= λ w. Ok (w, u.0.1)) there.0
    ∙ ap (λ x. read tag.octet x >>= λ w. Ok (w, u.0.1)) same.0 ∙ ap (λ r. r >>= λ w. Ok (w, u.0.1)) given
    ∙ ap (λ y. Ok (v, y)) same.1
