-- The leaves: octets of numbers, length octets, INTEGER, OCTET STRING.
use Rattle.std.proofs.Common.{ℕ, List, [], ◌∷◌, ◌++◌, ◌≡◌, ◌<◌, ◌≤◌, ◌⊎◌, ◌↔◌, ◌==◌, length, refl, sym, subst, ap, ◌∙◌, arith, inl, inr, true, false, Ok, length-append, Decides, bytes_eq}
use Rattle.std.specs.Int.Digits.{number_from_digits, digits_of}
use Rattle.std.proofs.lemmas.Bool.{cases_lt}
use Rattle.std.proofs.lemmas.Bool.Decides.{nat_tests}
use Rattle.std.proofs.lemmas.Int.Digits.{all_below_base_digits_of, number_digits_of, first_digits_of}
use Rattle.der_core.specs.Encodings.{AreBytes}
use Rattle.der_core.specs.Integer.{EncodesNumbers, HoldsNumber, IntegerContents, IsCanonical, NumberContents, SmallContents, integer_contents}
use Rattle.der_core.specs.IntegerReading.{integer_of, small_of}
use Rattle.der_core.specs.Laws.Encodings.{tlv_recast, tlv_relates}
use Rattle.der_core.specs.Laws.Integer.{bytes_decide, canonical_same, contents_at_most_one, holds_canonical, integer_relates}
use Rattle.der_core.specs.Laws.Length.{length_grows, length_octets-only, length_octets-within}
use Rattle.der_core.specs.Laws.Readings.{bind_ok, integer_reads, made_tells, ok_injective, small_reads}
use Rattle.der_core.specs.Printed.{Prints, ReadsAlike, ReadsPrinted, WritesShortest, number_contents, number_of}
use Rattle.der_core.specs.Readings.{any_contents, octets_of_all, ◌>>=◌}
use Rattle.der_core.specs.Tlv.{Tlv}
use Rattle.standard.specs.Statement.{integer, length_octets, limit, octets, tlv}

-- The octets of a number are its canonical bytes.
octets_zero : (n : ℕ) → n ≡ 0 → octets n ≡ 0 ∷ []
octets_zero n e = let t : (n == 0) ≡ true = grind (arith, nat_tests) in rw t refl

octets_some : (n : ℕ) → 0 < n → octets n ≡ digits_of 256 n
octets_some n h = let t : (n == 0) ≡ false = grind (arith, nat_tests) in rw t refl

pub octets_canonical : (n : ℕ) → IsCanonical (octets n)
octets_canonical n = elim (cases_lt 0 n) [
  | inl h ↦ rw (octets_some n h) (inr
      (all_below_base_digits_of 256 n (omega arith), first_digits_of 256 n (omega arith) h))
  | inr h ↦ rw (octets_zero n (omega arith)) (inl refl)
]

pub octets_number : (n : ℕ) → number_from_digits 256 (octets n) ≡ n
octets_number n = elim (cases_lt 0 n) [
  | inl h ↦ rw (octets_some n h) (number_digits_of 256 n (omega arith))
  | inr h ↦ rw (octets_zero n (omega arith)) (omega arith)
]

pub number_octets : (x : List ℕ) → IsCanonical x → octets (number_from_digits 256 x) ≡ x
number_octets x p =
    canonical_same (octets (number_from_digits 256 x)) x (octets_canonical (number_from_digits 256 x)) p
    (octets_number (number_from_digits 256 x))

pub octets_exact : (n : ℕ) (bytes : List ℕ)
    → (octets n ≡ bytes) ↔ (IsCanonical bytes × (number_from_digits 256 bytes ≡ n))
octets_exact n bytes = (
  λ e. (subst IsCanonical e (octets_canonical n), subst (λ x. number_from_digits 256 x ≡ n) e (octets_number n)),
  λ (p, is). ap octets (sym is) ∙ number_octets bytes p,
)

-- INTEGER
number_contents_hold : (n : ℕ) → IntegerContents (octets n) (number_contents n)
number_contents_hold n = integer_relates (octets n) (octets_canonical n)

number_contents_only : (x c : List ℕ) (n : ℕ) → number_from_digits 256 x ≡ n → IntegerContents x c
    → c ≡ number_contents n
number_contents_only x c n e p =
    let same : octets n ≡ x = ap octets (sym e) ∙ number_octets x p.0 in
    contents_at_most_one x c (integer_contents x) p (integer_relates x p.0) ∙ ap integer_contents (sym same)

-- What is written of a number whose octets are held; numbers are equal exactly if their octets are; they are encoded.
pub number_contents_as : (x : List ℕ) → IsCanonical x → number_contents (number_from_digits 256 x) ≡ integer_contents x
number_contents_as x p = ap integer_contents (number_octets x p)

pub numbers_decide : (x y : List ℕ) → HoldsNumber x → HoldsNumber y
    → Decides (bytes_eq x y) (number_from_digits 256 x ≡ number_from_digits 256 y)
numbers_decide x y p q = (
  λ e. ap (number_from_digits 256) ((bytes_decide x y).0 e),
  λ e. (bytes_decide x y).1 (canonical_same x y (holds_canonical x p) (holds_canonical y q) e),
)

pub numbers_encode : {X : Type 0} (octets : X → List ℕ)
    → EncodesNumbers (Prints (λ _. Unit {0}) (λ n. tlv 2 (number_contents n)) (λ n. n))
    (λ x. number_from_digits 256 (octets x)) octets
numbers_encode octets x bytes = (
  λ (n, e, ok, is). is ∙ ap integer e,
  λ is. (number_from_digits 256 (octets x), refl, tt, is),
)

pub number_law : ReadsPrinted (λ _. Unit {0}) number_contents number_of
number_law = record {
  gives = λ c n bytes e.
      let s = bind_ok (integer_of c) (λ x. Ok (number_from_digits 256 x)) e in
      (tt, number_contents_only s.0 c n (ok_injective s.2) (integer_reads.gives c s.0 bytes s.1));
  takes = λ n ok few.
      ap (λ r. r >>= λ x. Ok (number_from_digits 256 x))
      (integer_reads.takes (number_contents n) (octets n) few (number_contents_hold n))
      ∙ ap (λ m. Ok m) (octets_number n);
  tells = λ c k e. made_tells (number_from_digits 256) (integer_of c) (integer_reads.tells c k) e;
}

pub small_law : ReadsPrinted (λ n. n < 256) number_contents small_of
small_law = record {
  gives = λ c n bytes e.
      let (less, (x, number, p)) : SmallContents n c = small_reads.gives c n bytes e in
      (less, number_contents_only x c n number p);
  takes = λ n less few.
      small_reads.takes (number_contents n) n few (less, (octets n, octets_number n, number_contents_hold n));
  tells = small_reads.tells;
}

-- OCTET STRING
pub octets_law : ReadsPrinted AreBytes (λ o. o) octets_of_all
octets_law = record {
  gives = λ c o bytes e. let same : c ≡ o = ok_injective e in (subst AreBytes same bytes, same);
  takes = λ o ok few. refl;
  tells = λ c k e. cc;
}

-- Contents that aren't looked at: any octets, which mean the same.
pub any_alike : ReadsAlike octets_of_all (λ _. let v : Unit {0} = tt in v) any_contents
any_alike = record { same = λ c. refl }

pub any_shortest : WritesShortest AreBytes (λ o. o) (λ (_ : List ℕ). let v : Unit {0} = tt in v) (λ _. [])
any_shortest = record { back = λ v. refl; valid = λ s ok. tt; least = least }
  where
    least : (s : List ℕ) → AreBytes s → length s ≤ limit → (s ≡ []) ⊎ (0 < length s)
    least [] ok few = inl refl
    least (x ∷ xs) ok few = inr (omega arith)

-- Lengths and tags: what the standard writes is what a reader of headers finds.
pub tlv_is : {P : List ℕ → Type 0} (t : ℕ) (w encoding : List ℕ) → ((c : List ℕ) → P c → c ≡ w) → Tlv t P encoding
    → encoding ≡ tlv t w
tlv_is t w encoding is p =
    let o : p.octets ≡ length_octets (length p.contents) =
    length_octets-only (length p.contents) p.octets p.counted in
    p.written ∙ ap (λ x. t ∷ x ++ p.contents) o ∙ ap (tlv t) (is p.contents p.holds)

pub tlv_made : {P : List ℕ → Type 0} (t : ℕ) (w : List ℕ) → P w → length (tlv t w) ≤ limit → Tlv t P (tlv t w)
tlv_made {P} t w h fits =
    tlv_relates t (λ (_ : Unit {0}). P) (λ _. w) tt (λ _. h) (omega (arith, fits))

-- The functions give what the relations hold of, within the limit.
pub tlv_exact : (P : List ℕ → Type 0) (t : ℕ) (encoding : List ℕ) → length encoding ≤ limit
    → ((c : List ℕ) × P c × (tlv t c ≡ encoding)) ↔ Tlv t P encoding
tlv_exact P t encoding fits = (
  λ (c, h, is). subst (λ e. Tlv t P e) is (tlv_made t c h (subst (λ e. length e ≤ limit) (sym is) fits)),
  λ p. (
    p.contents,
    p.holds,
    sym (tlv_is t p.contents encoding (λ c same. same)
        (tlv_recast encoding p refl)),
  ),
)

pub integer_exact : (n : ℕ) (encoding : List ℕ) → length encoding ≤ limit
    → (integer n ≡ encoding) ↔ Tlv 2 (NumberContents n) encoding
integer_exact n encoding fits = (
  λ is. (tlv_exact (NumberContents n) 2 encoding fits).0
      (number_contents n, (octets n, octets_number n, number_contents_hold n), is),
  λ p. sym (tlv_is 2 (number_contents n) encoding (λ c (x, number, holds). number_contents_only x c n number holds) p),
)

pub tlv_fit : (t : ℕ) (c : List ℕ) → length c ≤ length (tlv t c)
tlv_fit t c = omega (arith, length-append (length_octets (length c)) c)

-- A greater length has no fewer octets.
pub octets_grow : (m n : ℕ) → m ≤ n → n ≤ limit → length (length_octets m) ≤ length (length_octets n)
octets_grow m n less few =
    length_grows m n (length_octets m) (length_octets n) (length_octets-within m (omega (arith, less, few)))
    (length_octets-within n (omega (arith, few))) less
