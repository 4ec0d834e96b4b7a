-- INTEGER: faults of its contents, worked examples, its length, bit lengths, numbers above 255. For `src/integer`.
use Rattle.std.proofs.Common.{take_all, ℕ, suc, List, [], ◌∷◌, ◌≡◌, ◌<◌, ◌≤◌, ◌-◌, length, get_or, take, drop, arith, sym, ap, ◌∙◌, Err, true, false, nat_lt, ◌==◌, map, refl, Ok, ◌+◌, slice_index, slice_index_or, zero, ◌*◌, ◌^◌, ◌⊎◌, inl, inr, lit<, mul-le-mul_right, zero-le, pow-add}
use Rattle.der_core.specs.Words.{HoldsNumber, nat_tests, number_contents, number_contents_as, written_large, Tag, ErrorKind, integer_of, integer_tag, same_tag, number_from_digits, IsBitLength, are_bytes, after_ge, base256_ge, small_of}
use Rattle.der_core.specs.Integer.{IsCanonical}
use Rattle.der_core.specs.declared.error.ErrorKind.TheVariants as kind
use Rattle.der_core.specs.declared.error.ErrorKind.TheVariants.{Length, Noncanonical, Value, Overflow}
use Rattle.std.proofs.Math.Nat.{pow-suc, pow-le-pow_right}
use Rattle.std.proofs.Math.Pow.{pow_mono}
use Rattle.std.proofs.lemmas.Bool.{cases_lt}
use Rattle.std.proofs.lemmas.Nat.{leading_top}
use Rattle.std.specs.Int.Count.{count_leading_zeros, leading_of_zero}
use Rattle.std.proofs.lemmas.Int.Digits.{number_after_lt}

-- The faults of the contents of an INTEGER, as its reader meets them.
pub integer_of_empty : (xs : List ℕ) (k : ErrorKind) (t : Tag) → length xs < 1 → k ≡ kind.Length t → t.octet ≡ 2
    → integer_of xs ≡ Err k
integer_of_empty [] k t n e o = ap (λ x. Err x) (sym (e ∙ ap kind.Length (same_tag t integer_tag o)))
integer_of_empty (x ∷ xs) k t n e o = absurd (omega arith)

pub integer_of_negative : (xs : List ℕ) (k : ErrorKind) (t : Tag) → 1 ≤ length xs → 128 ≤ get_or xs 0 0
    → k ≡ kind.Value t
    → t.octet ≡ 2 → integer_of xs ≡ Err k
integer_of_negative [] k t n h e o = absurd (omega arith)
integer_of_negative (x ∷ []) k t n h e o =
    let big : nat_lt x 128 ≡ false = grind arith in
    rw big (ap (λ x. Err x) (sym (e ∙ ap kind.Value (same_tag t integer_tag o))))
integer_of_negative (x ∷ y ∷ ys) k t n h e o =
    let big : nat_lt x 128 ≡ false = grind arith in
    rw big (ap (λ x. Err x) (sym (e ∙ ap kind.Value (same_tag t integer_tag o))))

pub integer_of_padded : (xs : List ℕ) (k : ErrorKind) (t : Tag) → 1 ≤ length xs → get_or xs 0 0 ≡ 0
    → 1 ≤ length (take (length xs - 1) (drop 1 xs)) → get_or (take (length xs - 1) (drop 1 xs)) 0 0 < 128
    → k ≡ kind.Noncanonical t → t.octet ≡ 2 → integer_of xs ≡ Err k
integer_of_padded [] k t n z some h e o = absurd (omega arith)
integer_of_padded (x ∷ xs) k t n z some h e o =
    let all : take (length (x ∷ xs) - 1) xs ≡ xs = take_all _ xs (omega arith) in go xs (rw all at some) (rw all at h)
  where
    go : (xs : List ℕ) → 1 ≤ length xs → get_or xs 0 0 < 128 → integer_of (x ∷ xs) ≡ Err k
    go [] some h = absurd (omega arith)
    go (y ∷ ys) some h =
        let less : nat_lt x 128 ≡ true = grind arith in
        let zero : (x == 0) ≡ true = grind arith in
        let low : nat_lt y 128 ≡ true = grind arith in
        rw (less, zero, low) (ap (λ x. Err x) (sym (e ∙ ap kind.Noncanonical (same_tag t integer_tag o))))

-- What is left after a padding zero holds a number.
starts_high : (xs : List ℕ) → 1 ≤ length xs → 128 ≤ slice_index_or xs 0 0 → ((i : ℕ) → slice_index_or xs i 0 < 256)
    → HoldsNumber xs
starts_high [] n h b = absurd (omega arith)
starts_high (x ∷ xs) n h b = (omega arith, (λ _. omega arith), b)

pub rest_holds : (xs : List ℕ) → 1 ≤ length xs → 1 ≤ length (take (length xs - 1) (drop 1 xs))
    → 128 ≤ slice_index_or (take (length xs - 1) (drop 1 xs)) 0 0 → ((i : ℕ) → slice_index_or xs i 0 < 256)
    → HoldsNumber (take (length xs - 1) (drop 1 xs))
rest_holds [] l n h b = absurd (omega arith)
rest_holds (x ∷ xs) l n h b =
    let all : take (length (x ∷ xs) - 1) xs ≡ xs = take_all _ xs (omega arith) in
    rw all (starts_high xs (rw all at n) (rw all at h) (λ i. b (suc i)))

-- == The contents of a number, by its bytes: these if the first is below 128, else with 0 in front ==
module _ (x : List ℕ) (canonical : IsCanonical x) where
  pub contents_large : 128 ≤ slice_index x 0 → number_contents (number_from_digits 256 x) ≡ 0 ∷ x
  contents_large h = number_contents_as x canonical ∙ written_large x h

  pub contents_small : slice_index x 0 < 128 → number_contents (number_from_digits 256 x) ≡ x
  contents_small h =
      let e : nat_lt (slice_index x 0) 128 ≡ true = grind (arith, nat_tests) in number_contents_as x canonical ∙ rw e refl

  pub contents_sign : (number_contents (number_from_digits 256 x) ≡ x)
      ⊎ (number_contents (number_from_digits 256 x) ≡ 0 ∷ x)
  contents_sign = elim (cases_lt (slice_index x 0) 128) [ inl h ↦ inl (contents_small h) | inr h ↦ inr (contents_large h) ]

-- == Worked rows: contents octets, with the octets of the number or the kind of the fault ==

-- 07, 7f, 0080, 0080ff, 00
abbrev integer_rows : List (List ℕ × List ℕ)
integer_rows =
    (0x07 ∷ [], 0x07 ∷ [])
    ∷ (0x7f ∷ [], 0x7f ∷ [])
    ∷ (0x00 ∷ 0x80 ∷ [], 0x80 ∷ [])
    ∷ (0x00 ∷ 0x80 ∷ 0xff ∷ [], 0x80 ∷ 0xff ∷ [])
    ∷ (0x00 ∷ [], 0x00 ∷ [])
    ∷ []

integer_rows_read : map (λ row. integer_of row.0) integer_rows ≡ map (λ row. Ok row.1) integer_rows
integer_rows_read = refl

-- No contents; 80, below zero; 0007 and 0000, padded.
abbrev integer_faults : List (List ℕ × ErrorKind)
integer_faults =
    ([], Length integer_tag)
    ∷ (0x80 ∷ [], Value integer_tag)
    ∷ (0x00 ∷ 0x07 ∷ [], Noncanonical integer_tag)
    ∷ (0x00 ∷ 0x00 ∷ [], Noncanonical integer_tag)
    ∷ []

integer_faults_read : map (λ row. integer_of row.0) integer_faults ≡ map (λ row. Err row.1) integer_faults
integer_faults_read = refl

-- The bit length of a number is that of its first byte, and eight bits for each other one.
power_of_256_in_bits : (k : ℕ) → 256 ^ k ≡ 2 ^ (8 * k)
power_of_256_in_bits zero = refl
power_of_256_in_bits (suc k) =
    let e : 8 * suc k ≡ 8 * k + 8 = omega arith in
    rw (e, pow-suc 256 k, pow-add 2 (8 * k) 8, power_of_256_in_bits k) refl

-- Of a first byte with j + 1 bits, and k bytes behind it.
bit_length_from_first : (first j k n : ℕ) → 2 ^ j ≤ first → first < 2 ^ suc j → first * 256 ^ k ≤ n
    → n < (first + 1) * 256 ^ k
    → IsBitLength n (suc j + 8 * k)
bit_length_from_first first j k n low high least most = (below, fewest)
  where
    top : (first + 1) * 256 ^ k ≤ 2 ^ suc j * 256 ^ k
    top = mul-le-mul_right (256 ^ k) (omega arith)

    below : n < 2 ^ (suc j + 8 * k)
    below = rw (pow-add 2 (suc j) (8 * k), ← power_of_256_in_bits k) (omega (arith, top))

    bottom : 2 ^ (j + 8 * k) ≤ n
    bottom =
        let least' : 2 ^ j * 256 ^ k ≤ first * 256 ^ k = mul-le-mul_right (256 ^ k) low in
        rw (pow-add 2 j (8 * k), ← power_of_256_in_bits k) (omega arith)

    fewest : (fewer : ℕ) → n < 2 ^ fewer → suc j + 8 * k ≤ fewer
    fewest fewer h = elim (cases_lt fewer (suc j + 8 * k)) [
      | inl l ↦ let up : 2 ^ fewer ≤ 2 ^ (j + 8 * k) = pow_mono (omega arith) in absurd (omega (arith, bottom))
      | inr l ↦ l
    ]

-- So it is eight bits for each byte, without the zero bits in front of the first one.
pub number_bit_length : (bytes : List ℕ) → HoldsNumber bytes
    → IsBitLength (number_from_digits 256 bytes) (8 * length bytes - count_leading_zeros 8 (slice_index bytes 0))
number_bit_length [] h = absurd (omega arith)
number_bit_length (zero ∷ []) h = rw (leading_of_zero 8) (lit< tt, λ fewer l. zero-le)
number_bit_length (zero ∷ y ∷ ys) h = absurd (omega arith)
number_bit_length (suc x ∷ rest) h =
    let first : ℕ = 0 * 256 + suc x in
    let top = leading_top 8 (suc x) (omega arith) (h.2 0) in
    let least : first * 256 ^ length rest ≤ number_from_digits 256 (suc x ∷ rest) = after_ge first rest in
    let most : number_from_digits 256 (suc x ∷ rest) < (first + 1) * 256 ^ length rest =
    number_after_lt 256 first rest (are_bytes (suc x ∷ rest) h.2).1 in
    let bits : suc top.0 + 8 * length rest ≡ 8 * length (suc x ∷ rest) - count_leading_zeros 8 (suc x) =
    omega arith in
    let low : 2 ^ top.0 ≤ first = omega arith in
    let high : first < 2 ^ suc top.0 = omega arith in
    rw (sym bits) (bit_length_from_first first top.0 (length rest) _ low high least most)

-- == An INTEGER above 255 is no number from 0 to 255 ==

-- More than one canonical byte is more than 255.
number_of_bytes_large : (bytes : List ℕ) → HoldsNumber bytes → 1 < length bytes → 256 ≤ number_from_digits 256 bytes
number_of_bytes_large [] h l = absurd (omega arith)
number_of_bytes_large (x ∷ xs) h l =
    let first : 0 < x = h.1 l in
    let ge : 256 ^ length xs ≤ number_from_digits 256 (x ∷ xs) =
    base256_ge (number_from_digits 256 (x ∷ xs)) xs x first refl in
    let positive : 0 < 256 = omega arith in
    let one : 1 ≤ length xs = omega arith in
    let up : 256 ^ 1 ≤ 256 ^ length xs = pow-le-pow_right positive one in
    omega arith

-- So it has the fault of a value.
pub small_of_large : (xs bytes : List ℕ) (k : ErrorKind) (t : Tag) → integer_of xs ≡ Ok bytes → HoldsNumber bytes
    → 1 < length bytes → k ≡ kind.Value t → t.octet ≡ 2 → small_of xs ≡ Err k
small_of_large xs bytes k t read h l e o =
    let big : 256 ≤ number_from_digits 256 bytes = number_of_bytes_large bytes h l in
    let test : nat_lt (number_from_digits 256 bytes) 256 ≡ false = grind arith in
    rw (read, test) (ap (λ x. Err x) (sym (e ∙ ap kind.Value (same_tag t integer_tag o))))
