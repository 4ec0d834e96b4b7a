-- Lists, digits of numbers, and what a writer to the front of a slice keeps.
use Rattle.std.proofs.Common.{List, [], ◌∷◌, ◌++◌, ◌≡◌, length, refl, arith, ℕ, suc, ◌<◌, ◌≤◌, ◌+◌, ◌*◌, ◌^◌, sym, ◌∙◌, inl, inr, mul-le-mul_right, zero-le, ◌-◌, drop, ap, drop-drop}
use Rattle.std.proofs.Math.Nat.{pow-suc, pow-le-pow_right}
use Rattle.std.proofs.lemmas.Bool.{cases_lt}
use Rattle.std.specs.Int.Digits.{number_from_digits, number_from_digits_after, AllBelowBase}
use Rattle.std.proofs.lemmas.Int.Digits.{number_lt}
use Rattle.der_core.specs.Length.{IsBase256}
use Rattle.der_core.specs.Slices.{Keeps}
use Rattle.der_core.specs.declared.writer.SliceWriter.{SliceWriter}

pub cons_same : {A : Type 0} {a b : A} {x y : List A} → a ≡ b → x ≡ y → a ∷ x ≡ b ∷ y
cons_same p q = cc

pub cons_injective : {A : Type 0} {a b : A} {x y : List A} → a ∷ x ≡ b ∷ y → (a ≡ b) × (x ≡ y)
cons_injective e = (cc, cc)

-- Fronts of one length of one list are the same, and so is what follows.
pub append_injective : {A : Type 0} (x y x' y' : List A) → length x ≡ length x' → x ++ y ≡ x' ++ y'
    → (x ≡ x') × (y ≡ y')
append_injective [] y [] y' n e = (refl, e)
append_injective [] y (b ∷ x') y' n e = absurd (omega arith)
append_injective (a ∷ x) y [] y' n e = absurd (omega arith)
append_injective (a ∷ x) y (b ∷ x') y' n e =
    let c = cons_injective e in
    let r = append_injective x y x' y' (omega arith) c.1 in
    (cons_same c.0 r.0, r.1)

-- == A number has one list of digits without a leading zero, and a greater number has no fewer digits ==

-- One digit more at the end.
digit_step_injective : (m n x y : ℕ) → x < 256 → y < 256 → m * 256 + x ≡ n * 256 + y → (m ≡ n) × (x ≡ y)
digit_step_injective m n x y p q e = (omega arith, omega arith)

digits_after_injective : (m n : ℕ) (x y : List ℕ) → AllBelowBase 256 x → AllBelowBase 256 y → length x ≡ length y
    → number_from_digits_after 256 m x ≡ number_from_digits_after 256 n y → (m ≡ n) × (x ≡ y)
digits_after_injective m n [] [] p q l e = (e, refl)
digits_after_injective m n [] (b ∷ y) p q l e = absurd (omega arith)
digits_after_injective m n (a ∷ x) [] p q l e = absurd (omega arith)
digits_after_injective m n (a ∷ x) (b ∷ y) p q l e =
    let r = digits_after_injective (m * 256 + a) (n * 256 + b) x y p.1 q.1 (omega arith) e in
    let s = digit_step_injective m n a b p.0 q.0 r.0 in
    (s.0, cons_same s.1 r.1)

-- Digits put behind a number make it no less than that number times a power of the base.
pub after_ge : (m : ℕ) (x : List ℕ) → m * 256 ^ length x ≤ number_from_digits_after 256 m x
after_ge m [] = omega arith
after_ge m (a ∷ x) =
    let ih : (m * 256 + a) * 256 ^ length x ≤ number_from_digits_after 256 (m * 256 + a) x = after_ge (m * 256 + a) x in
    let s : 256 ^ suc (length x) ≡ 256 ^ length x * 256 = pow-suc 256 (length x) in
    rw s (omega arith)

pub base256_ge : (n : ℕ) (x : List ℕ) (a : ℕ) → 0 < a → n ≡ number_from_digits 256 (a ∷ x) → 256 ^ length x ≤ n
base256_ge n x a p e =
    let g : (0 * 256 + a) * 256 ^ length x ≤ n = rw e (after_ge (0 * 256 + a) x) in
    let k : 1 * 256 ^ length x ≤ a * 256 ^ length x = mul-le-mul_right (256 ^ length x) p in
    omega arith

-- A number that isn't less has no fewer digits.
pub base256_grows : (m n : ℕ) (x y : List ℕ) → IsBase256 m x → IsBase256 n y → m ≤ n → length x ≤ length y
base256_grows m n [] y p q l = zero-le
base256_grows m n (a ∷ x) [] p q l = absurd (omega arith)
base256_grows m n (a ∷ x) (b ∷ y) p q l = elim (cases_lt (length x) (suc (length y))) [
  | inl h ↦ h
  | inr h ↦
      let low : 256 ^ length x ≤ m = base256_ge m x a p.no_leading_zero (sym p.value) in
      let high : number_from_digits 256 (b ∷ y) < 256 ^ suc (length y) = number_lt 256 (b ∷ y) q.bytes in
      let mono : 256 ^ suc (length y) ≤ 256 ^ length x = pow-le-pow_right (omega arith) h in
      absurd (omega (arith, q.value))
]

pub base256_same : (n : ℕ) (x y : List ℕ) → IsBase256 n x → IsBase256 n y → x ≡ y
base256_same n x y p q =
    let a : length x ≤ length y = base256_grows n n x y p q (omega arith) in
    let b : length y ≤ length x = base256_grows n n y x q p (omega arith) in
    (digits_after_injective 0 0 x y p.bytes q.bytes (omega arith) (p.value ∙ sym q.value)).1

-- A number without a leading zero isn't zero.
pub base256_pos : (n : ℕ) (x : List ℕ) → IsBase256 n x → 0 < n
base256_pos n [] p = absurd (omega (arith, p.no_leading_zero))
base256_pos n (a ∷ x) p =
    let g : 256 ^ length x ≤ n = base256_ge n x a p.no_leading_zero (sym p.value) in
    let k : 256 ^ 0 ≤ 256 ^ length x = pow-le-pow_right (omega arith) zero-le in
    omega arith

-- What a writer to the front of a slice keeps.
pub Keeps-itself : (w : SliceWriter) → Keeps w w
Keeps-itself w = (refl, refl, omega arith, refl)

drop_same_later : (xs ys : List ℕ) (m n : ℕ) → m ≤ n → drop m xs ≡ drop m ys → drop n xs ≡ drop n ys
drop_same_later xs ys m n h e =
    let sum : m + (n - m) ≡ n = omega arith in
    sym (drop-drop (n - m) m xs ∙ ap (λ k. drop k xs) sum) ∙ ap (drop (n - m)) e
    ∙ (drop-drop (n - m) m ys ∙ ap (λ k. drop k ys) sum)

pub Keeps-through : (u v w : SliceWriter) → Keeps u v → Keeps v w → Keeps u w
Keeps-through u v w p q =
    (q.0 ∙ p.0, q.1 ∙ p.1, omega arith, q.3 ∙ drop_same_later v.slice.now u.slice.now v.len w.len q.2 p.3)
