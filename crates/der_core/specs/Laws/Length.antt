-- Length octets: told apart, one for each length, no fewer for a greater one. An encoding is a document in one way.
use Rattle.std.proofs.Common.{ℕ, List, [], ◌∷◌, ◌++◌, ◌≡◌, ◌<◌, ◌≤◌, ◌+◌, ◌^◌, ◌↔◌, length, refl, sym, subst, ap, ◌∙◌, arith, inl, inr, nat_lt, true, false}
use Rattle.std.proofs.lemmas.Bool.{cases_lt}
use Rattle.std.specs.Int.Digits.{digits_of, number_from_digits}
use Rattle.std.proofs.lemmas.Int.Digits.{all_below_base_digits_of, number_digits_of, first_digits_of, length-digits_of-le}
use Rattle.der_core.specs.Length.{IsLength, IsBase256, short, long, length_octets}
use Rattle.std.proofs.lemmas.Bool.Decides.{nat_tests}
use Rattle.der_core.specs.Laws.Numbers.{cons_injective, append_injective, base256_grows, base256_same}
use mathlib.Core.HLevel.{is_prop→PathP, ×_prop, Unit-prop}
use denote.Struct.Props.{props}
use Rattle.std.specs.Coded.{le_prop}
use Rattle.der_core.specs.Encodings.{AreBytes}
use Rattle.der_core.specs.Tlv.{Tlv}
use Rattle.der_core.specs.Document.{IsDocument}

pub length_split : (m n : ℕ) (x y x' y' : List ℕ) → IsLength m x → IsLength n x' → x ++ y ≡ x' ++ y'
    → (x ≡ x') × (m ≡ n) × (y ≡ y')
length_split m n x y x' y' (short p e) (short q f) h =
    let c : m ∷ y ≡ n ∷ y' = rw (e, f) at h in
    let d = cons_injective c in
    (rw (e, f, d.0), d.0, d.1)
length_split m n x y x' y' (short p e) (long ds q k b f) h =
    let c : m ∷ y ≡ (128 + length ds) ∷ (ds ++ y') = rw (e, f) at h in
    let d : m ≡ 128 + length ds = (cons_injective c).0 in
    absurd (omega arith)
length_split m n x y x' y' (long ds q k b f) (short p e) h =
    let c : (128 + length ds) ∷ (ds ++ y) ≡ n ∷ y' = rw (f, e) at h in
    let d : 128 + length ds ≡ n = (cons_injective c).0 in
    absurd (omega arith)
length_split m n x y x' y' (long ds p j a e) (long ds' q k b f) h =
    let c : (128 + length ds) ∷ (ds ++ y) ≡ (128 + length ds') ∷ (ds' ++ y') = rw (e, f) at h in
    let d = cons_injective c in
    let l : 128 + length ds ≡ 128 + length ds' = d.0 in
    let s = append_injective ds y ds' y' (omega arith) d.1 in
    let v : number_from_digits 256 ds ≡ number_from_digits 256 ds' = ap (number_from_digits 256) s.0 in
    (rw (e, f, s.0), sym a.value ∙ v ∙ b.value, s.1)

pub length_same : (n : ℕ) (x y : List ℕ) → IsLength n x → IsLength n y → x ≡ y
length_same n x y (short p e) (short q f) = cc
length_same n x y (short p e) (long ds q k b f) = absurd (omega arith)
length_same n x y (long ds q k b f) (short p e) = absurd (omega arith)
length_same n x y (long ds p j a e) (long ds' q k b f) =
    let s = base256_same n ds ds' a b in
    rw (e, f, s)

pub length_grows : (m n : ℕ) (x y : List ℕ) → IsLength m x → IsLength n y → m ≤ n → length x ≤ length y
length_grows m n x y (short p e) (short q f) l = rw (e, f) (omega arith)
length_grows m n x y (short p e) (long ds q k b f) l = rw (e, f) (omega arith)
length_grows m n x y (long ds q k b f) (short p e) l = absurd (omega arith)
length_grows m n x y (long ds p j a e) (long ds' q k b f) l =
    let s : length ds ≤ length ds' = base256_grows m n ds ds' a b l in
    rw (e, f) (omega arith)

-- Every number within the limit has length octets.
pub length_made : (n : ℕ) → n < 2 ^ 128 → (octets : List ℕ) × IsLength n octets
length_made n l = elim (cases_lt n 128) [
  | inl h ↦ (n ∷ [], short h refl)
  | inr h ↦
      let k : length (digits_of 256 n) ≤ 16 = length-digits_of-le 256 16 n (omega arith) l in (
        (128 + length (digits_of 256 n)) ∷ digits_of 256 n,
        long (digits_of 256 n) h (omega arith)
            (record {
              bytes = all_below_base_digits_of 256 n (omega arith);
              value =
                  number_digits_of 256 n (omega arith);
              no_leading_zero =
                  first_digits_of 256 n (omega arith) (omega arith);
            })
            refl,
      )
]

-- The length octets that are written.
pub length_octets-short : (n : ℕ) → n < 128 → length_octets n ≡ n ∷ []
unfolding length_octets
length_octets-short n h = let e : nat_lt n 128 ≡ true = grind (arith, nat_tests) in rw e refl

pub length_octets-long : (n : ℕ) → 128 ≤ n → length_octets n ≡ (128 + length (digits_of 256 n)) ∷ digits_of 256 n
unfolding length_octets
length_octets-long n h = let e : nat_lt n 128 ≡ false = grind (arith, nat_tests) in rw e refl

digits_of_base256 : (n : ℕ) → 0 < n → IsBase256 n (digits_of 256 n)
digits_of_base256 n h =
    record {
      bytes = all_below_base_digits_of 256 n (omega arith);
      value = number_digits_of 256 n (omega arith);
      no_leading_zero = first_digits_of 256 n (omega arith) h;
    }

-- They are length octets of the number, if a number that isn't less has any.
pub length_octets-are : (m n : ℕ) (s : List ℕ) → m ≤ n → IsLength n s → IsLength m (length_octets m)
length_octets-are m n s le p = elim (cases_lt m 128) [
  | inl h ↦ short h (length_octets-short m h)
  | inr h ↦ long (digits_of 256 m) h (few p) (digits_of_base256 m (omega arith)) (length_octets-long m h)
]
  where
    few : IsLength n s → length (digits_of 256 m) ≤ 126
    few (short q f) = elim (cases_lt m 128) [
      | inl h ↦ let k : length (digits_of 256 m) ≤ 1 =
          length-digits_of-le 256 1 m (omega arith) (omega arith) in omega arith
      | inr h ↦ absurd (omega arith)
    ]
    few (long ds q k b f) = elim (cases_lt 0 m) [
      | inl h ↦ let g : length (digits_of 256 m) ≤ length ds =
          base256_grows m n (digits_of 256 m) ds (digits_of_base256 m h) b le in omega arith
      | inr h ↦ let g : length (digits_of 256 m) ≤ 1 =
          length-digits_of-le 256 1 m (omega arith) (omega arith) in omega arith
    ]

pub length_octets-only : (n : ℕ) (s : List ℕ) → IsLength n s → s ≡ length_octets n
length_octets-only n s p = length_same n s (length_octets n) p (length_octets-are n n s (omega arith) p)

pub length_octets-within : (n : ℕ) → n < 2 ^ 128 → IsLength n (length_octets n)
length_octets-within n h = let made = length_made n h in length_octets-are n n made.0 (omega arith) made.1

-- The function gives what the relation holds of, for each length that has length octets: with 126 more of them at most.
pub length_octets-exact : (n : ℕ) (s : List ℕ) → n < 256 ^ 126 → (length_octets n ≡ s) ↔ IsLength n s
length_octets-exact n s few = (λ e. subst (λ x. IsLength n x) e made, λ p. sym (length_octets-only n s p))
  where
    made : IsLength n (length_octets n)
    made = elim (cases_lt n 128) [
      | inl h ↦ short h (length_octets-short n h)
      | inr h ↦ long (digits_of 256 n) h (length-digits_of-le 256 126 n (omega arith) few)
          (digits_of_base256 n (omega arith)) (length_octets-long n h)
    ]

-- There are few length octets.
pub length_few : (n : ℕ) (s : List ℕ) → IsLength n s → length s ≤ 127
length_few n s (short p e) = rw e (omega arith)
length_few n s (long ds p k b e) = rw e (omega (arith, k))

-- An encoding is a document in one way.
bytes_set : IsSet (List ℕ)
bytes_set = hlevel props

AreBytes-prop : (x : List ℕ) → IsProp (AreBytes x)
AreBytes-prop [] = Unit-prop
AreBytes-prop (b ∷ x) = ×_prop le_prop (AreBytes-prop x)

IsBase256-prop : (n : ℕ) (digits : List ℕ) → IsProp (IsBase256 n digits)
IsBase256-prop n digits = hlevel (props, AreBytes-prop digits)

IsLength-prop : (n : ℕ) (octets : List ℕ) → IsProp (IsLength n octets)
IsLength-prop n octets (short p e) (short q f) = λ i. short (le_prop p q i) (bytes_set octets (n ∷ []) e f i)
IsLength-prop n octets (short p e) (long ds q k b f) = absurd (omega arith)
IsLength-prop n octets (long ds q k b f) (short p e) = absurd (omega arith)
IsLength-prop n octets (long ds p j a e) (long ds' q k b f) =
    let d : ds ≡ ds' = base256_same n ds ds' a b in λ i.
    long (d i) (le_prop p q i)
    (is_prop→PathP (λ h. length (d h) ≤ 126) (λ h. le_prop) j k i)
    (is_prop→PathP (λ h. IsBase256 n (d h)) (λ h. IsBase256-prop n (d h)) a b i)
    (is_prop→PathP (λ h. octets ≡ (128 + length (d h)) ∷ d h) (λ h. bytes_set octets ((128 + length (d h)) ∷ d h)) e f
    i)

Tlv-prop : (t : ℕ) (Contents : List ℕ → Type 0) → ((c : List ℕ) → IsProp (Contents c)) → (encoding : List ℕ)
    → IsProp (Tlv t Contents encoding)
Tlv-prop t Contents is_prop encoding p q =
    let c = cons_injective (sym p.written ∙ q.written) in
    let s =
    length_split (length p.contents) (length q.contents) p.octets p.contents q.octets q.contents p.counted q.counted
    c.1 in λ i. record {
      octets = s.0 i;
      contents = s.2 i;
      counted =
          is_prop→PathP (λ h. IsLength (length (s.2 h)) (s.0 h)) (λ h. IsLength-prop (length (s.2 h)) (s.0 h)) p.counted
          q.counted i;
      holds = is_prop→PathP (λ h. Contents (s.2 h)) (λ h. is_prop (s.2 h)) p.holds q.holds i;
      written =
          is_prop→PathP (λ h. encoding ≡ t ∷ s.0 h ++ s.2 h) (λ h. bytes_set encoding (t ∷ s.0 h ++ s.2 h)) p.written
          q.written i;
    }

pub IsDocument-prop : (encoding : List ℕ) → IsProp (IsDocument encoding)
IsDocument-prop encoding = ×_prop le_prop (Tlv-prop 48 AreBytes AreBytes-prop encoding)
