-- What a reader has left; how length octets and headers are read; which errors are about the bytes.
use Rattle.std.proofs.Common.{ℕ, Bool, true, false, List, [], ◌∷◌, Some, None, ◌<◌, ◌≤◌, slice_index, if◌then◌else◌, length, suc, arith, ◌≡◌, ap, Result, Ok, ◌≢◌, zero, ◌+◌, ◌-◌, ◌*◌, ◌^◌, ◌++◌, take, refl, sym, length-append, length-take, inl, inr, ◌⊎◌, ⊎_elim, Err, cond, nat_lt, ◌==◌, take-append-drop, ◌∙◌, append_assoc, IsTrue}
use Rattle.der_core.specs.declared.error.ErrorKind.{ErrorKind}
use Rattle.der_core.specs.Length.{limit, IsLength, short, long}
use Rattle.der_core.specs.Encodings.{AreBytes}
use Rattle.der_core.specs.Input.{left_in, is_overlong, long_length_at, length_at, header_at, with_tag}
use Rattle.std.proofs.lemmas.Bool.Decides.{nat_tests}
use Rattle.std.specs.Int.Digits.{number_from_digits}
use Rattle.std.proofs.Math.Seq.{take-append_seam, drop-append_seam}
use Rattle.std.proofs.Math.Nat.{pow-suc, pow-le-pow_right}
use Rattle.der_core.specs.Laws.Numbers.{base256_ge}
use Rattle.der_core.specs.declared.error.ErrorKind.TheVariants as kind
use Rattle.der_core.specs.declared.tag.Tag.{Tag}
use Rattle.der_core.specs.Reading.{TellsOfBytes}
use Rattle.der_core.specs.Tlv.{HeaderEncoding, Tlv}
use Rattle.der_core.specs.Tag.{is_allowed}
use Rattle.der_core.specs.declared.error.ErrorKind.TheVariants.{Incomplete, IndefiniteLength, Overflow, Overlength, TagUnknown}

-- Equal results have equal values and rests.
pub ok_pair : {A : Type 0} (a a2 : A) (r r2 : List ℕ)
    (e : ◌≡◌ {A = Result (A × List ℕ) ErrorKind} (Ok (a, r)) (Ok (a2, r2))) → (a ≡ a2) × (r ≡ r2)
ok_pair {A} a a2 r r2 e =
    let same : ◌≡◌ {A = A × List ℕ} (a, r) (a2, r2) = cc in
    (ap (λ p. p.0) same, ap (λ p. p.1) same)

pub left_bounded : (failed : Bool) (b : List ℕ) → length b ≤ limit
    → length (left_in (if failed then None else Some b)) ≤ limit
left_bounded true b h = omega arith
left_bounded false b h = h

-- Numbers below 256 are bytes.
pub are_bytes : (xs : List ℕ) → ((i : ℕ) → slice_index xs i < 256) → AreBytes xs
are_bytes [] h = tt
are_bytes (x ∷ xs) h = (h 0, are_bytes xs (λ i. h (suc i)))

pub left_bytes : (failed : Bool) (b : List ℕ) → ((i : ℕ) → slice_index b i < 256)
    → AreBytes (left_in (if failed then None else Some b))
left_bytes true b h = tt
left_bytes false b h = are_bytes b h

-- Laws of length octets as they are read.
pub bytes_front : (xs : List ℕ) (i : ℕ) → AreBytes xs → AreBytes (take i xs)
bytes_front xs zero h = tt
bytes_front [] (suc i) h = tt
bytes_front (x ∷ xs) (suc i) h = (h.0, bytes_front xs i h.1)

-- digits with no leading zero fill their number
digits_fill : (xs : List ℕ) → 0 < slice_index xs 0 → 256 ^ length xs ≤ number_from_digits 256 xs * 256
digits_fill [] h = absurd (omega (arith, h))
digits_fill (x ∷ xs) h =
    let g : 256 ^ length xs ≤ number_from_digits 256 (x ∷ xs) =
    base256_ge (number_from_digits 256 (x ∷ xs)) xs x h refl in
    rw (pow-suc 256 (length xs)) (omega arith)

-- five octets that start with a digit spell more than the limit
pub short_within_limit : (xs : List ℕ) → 0 < slice_index xs 0 → number_from_digits 256 xs ≤ limit → length xs ≤ 4
short_within_limit xs h below =
    let full : 256 ^ length xs ≤ number_from_digits 256 xs * 256 = digits_fill xs h in
    let more : 5 ≤ length xs → 256 ^ 5 ≤ 256 ^ length xs =
    λ m. (let positive : 0 < 256 = omega arith in pow-le-pow_right positive m) in
    grind arith

pub cond_cases : {X : Type 0} (b : Bool) (x y z : X) → cond b x y ≡ z → ((b ≡ true) × (x ≡ z)) ⊎ ((b ≡ false) × (y ≡ z))
cond_cases true x y z e = inl (refl, e)
cond_cases false x y z e = inr (refl, e)

pub guard_ok : {X : Type 0} (b : Bool) (d : ErrorKind) (r : Result X ErrorKind) (x : X) → cond b (Err d) r ≡ Ok x
    → (b ≡ false) × (r ≡ Ok x)
guard_ok true d r x e = cc
guard_ok false d r x e = (refl, e)

-- octets that aren't overlong
pub not_overlong : (m : List ℕ) → 0 < length m → is_overlong m ≡ false
    → (0 < slice_index m 0) × (128 ≤ number_from_digits 256 m)
not_overlong [] h e = absurd (omega arith)
not_overlong (x ∷ []) h e =
    let big : 128 ≤ x = grind (arith, nat_tests) in (omega arith, omega arith)
not_overlong (x ∷ y ∷ ys) h e =
    let nonzero : 0 < x = grind (arith, nat_tests) in
    let full : 256 ^ length (x ∷ y ∷ ys) ≤ number_from_digits 256 (x ∷ y ∷ ys) * 256 = digits_fill (x ∷ y ∷ ys)
    nonzero in
    let positive : 0 < 256 = omega arith in
    let two : 2 ≤ length (x ∷ y ∷ ys) = omega arith in
    let more : 256 ^ 2 ≤ 256 ^ length (x ∷ y ∷ ys) = pow-le-pow_right positive two in
    (nonzero, omega arith)

pub overlong_not : (m : List ℕ) → 0 < slice_index m 0 → 128 ≤ number_from_digits 256 m → is_overlong m ≡ false
overlong_not [] h e = absurd (omega (arith, h))
overlong_not (x ∷ []) h e = let big : 128 ≤ x = omega (arith, e) in grind (arith, nat_tests)
overlong_not (x ∷ y ∷ ys) h e = grind (arith, nat_tests)

-- What long_length_at reads are m octets that spell the number.
pub long_length_at-sound : (m : ℕ) (b rest : List ℕ) (n : ℕ) → 0 < m → long_length_at m b ≡ Ok (n, rest)
    → (length (take m b) ≡ m) × (number_from_digits 256 (take m b) ≡ n) × (0 < slice_index (take m b) 0) × (128 ≤ n)
    × (b ≡ take m b ++ rest) × (n ≤ limit)
long_length_at-sound m b rest n positive e =
    let room = guard_ok (nat_lt (length b) m) _ _ _ e in
    let canonical = guard_ok (is_overlong (take m b)) _ _ _ room.1 in
    let within = guard_ok (nat_lt limit (number_from_digits 256 (take m b))) _ _ _ canonical.1 in
    let parts = ok_pair _ _ _ _ within.1 in
    let enough : m ≤ length b = grind (arith, nat_tests, room.0) in
    let len : length (take m b) ≡ m = simp length-take (omega arith) in
    let first = not_overlong (take m b) (rw len positive) canonical.0 in
    let low : number_from_digits 256 (take m b) ≤ limit = grind (arith, nat_tests, within.0) in
    (len, parts.0, first.0, rw (← parts.0) first.1, rw (← parts.1) (sym (take-append-drop m b)), rw (← parts.0) low)

-- What length_at reads are length octets.
pub length_at-sound : (b rest : List ℕ) (n : ℕ) → AreBytes b → length_at b ≡ Ok (n, rest)
    → (s : List ℕ) × IsLength n s × (b ≡ s ++ rest) × (n ≤ limit)
unfolding length_at
length_at-sound [] rest n bytes e = cc
length_at-sound (x ∷ b) rest n bytes e =
    ⊎_elim
    (λ w.
    let parts = ok_pair _ _ _ _ w.1 in
    let small : x < 128 = grind (arith, nat_tests, w.0) in
    let low : n < 128 = rw (← parts.0) small in
    (x ∷ [], short low (rw parts.0 refl), rw parts.1 refl, omega arith))
    (λ w.
    let not_80 = guard_ok (x == 128) _ _ _ w.1 in
    let not_more = guard_ok (nat_lt 132 x) _ _ _ not_80.1 in
    let above : 128 ≤ x = grind (arith, nat_tests, w.0) in
    let other : x ≢ 128 = grind (arith, nat_tests, not_80.0) in
    let below : x ≤ 132 = grind (arith, nat_tests, not_more.0) in
    let read = long_length_at-sound (x - 128) b rest n (omega arith) not_more.1 in
    let m = take (x - 128) b in
    let len : length m ≡ x - 128 = read.0 in
    let head : x ≡ 128 + length m = omega arith in (
      x ∷ m,
      long m read.3 (omega arith)
          (record { bytes = bytes_front b (x - 128) bytes.1; value = read.1; no_leading_zero = read.2 })
          (ap (λ t. t ∷ m) head),
      ap (λ t. x ∷ t) read.4,
      read.5,
    ))
    (cond_cases (nat_lt x 128) _ _ _ e)

first_positive : (m : List ℕ) → 0 < slice_index m 0 → 0 < length m
first_positive [] h = absurd (omega (arith, h))
first_positive (x ∷ xs) h = omega arith

-- Length octets are read, whatever follows.
pub length_at-complete : (n : ℕ) (s rest : List ℕ) → IsLength n s → n ≤ limit → length_at (s ++ rest) ≡ Ok (n, rest)
unfolding length_at
length_at-complete n s rest (short p e) within =
    let small : nat_lt n 128 ≡ true = grind (arith, nat_tests, p) in
    rw e (rw small refl)
length_at-complete n s rest (long m p few b e) within =
    let spells : number_from_digits 256 m ≡ n = b.value in
    let nonzero : 0 < slice_index m 0 = b.no_leading_zero in
    let four : length m ≤ 4 = short_within_limit m nonzero (rw spells within) in
    let big : 128 ≤ number_from_digits 256 m = rw spells p in
    let fewest : is_overlong m ≡ false = overlong_not m nonzero big in
    let not_short : nat_lt (128 + length m) 128 ≡ false = grind (arith, nat_tests) in
    let not_80 : (128 + length m == 128) ≡ false = grind (arith, nat_tests, first_positive m nonzero) in
    let not_more : nat_lt 132 (128 + length m) ≡ false = grind (arith, nat_tests) in
    let same : 128 + length m - 128 ≡ length m = omega arith in
    let room : nat_lt (length (m ++ rest)) (length m) ≡ false = simp length-append (grind (arith, nat_tests)) in
    let low : nat_lt limit (number_from_digits 256 m) ≡ false = rw spells (grind (arith, nat_tests)) in
    rw e (rw (
      not_short,
      not_80,
      not_more,
      same,
      room,
      take-append_seam m rest,
      fewest,
      low,
      drop-append_seam m rest,
      spells,
    ) refl)

-- Kinds of errors that are about the bytes.
pub incomplete_error_tells : {k : ErrorKind} → k ≡ kind.Incomplete → TellsOfBytes k
incomplete_error_tells e = (λ no. cc, λ no. cc, λ no. cc)

pub trailing_error_tells : {k : ErrorKind} → k ≡ kind.TrailingData → TellsOfBytes k
trailing_error_tells e = (λ no. cc, λ no. cc, λ no. cc)

pub unexpected_tag_error_tells : {k : ErrorKind} {expected actual : Tag} → k ≡ kind.TagUnexpected expected actual
    → TellsOfBytes k
unexpected_tag_error_tells e = (λ no. cc, λ no. cc, λ no. cc)

pub value_error_tells : {k : ErrorKind} {tag : Tag} → k ≡ kind.Value tag → TellsOfBytes k
value_error_tells e = (λ no. cc, λ no. cc, λ no. cc)

-- An error about the bytes, or the result that it guards.
pub guard_tells : {X : Type 0} (b : Bool) (d k : ErrorKind) (r : Result X ErrorKind) → TellsOfBytes d
    → (r ≡ Err k → TellsOfBytes k) → cond b (Err d) r ≡ Err k → TellsOfBytes k
guard_tells {X} true d k r tells behind is = same_tells d k tells is
  where
    same_tells : (a b : ErrorKind) → TellsOfBytes a → ◌≡◌ {A = Result X ErrorKind} (Err a) (Err b) → TellsOfBytes b
    same_tells a b t e = let same : a ≡ b = cc in rw (← same) t
guard_tells false d k r tells behind is = behind is

-- Laws of headers and encodings.
with_tag_ok : (t : ℕ) (r : Result (ℕ × List ℕ) ErrorKind) (u n : ℕ) (rest : List ℕ) → with_tag t r ≡ Ok ((u, n), rest)
    → (t ≡ u) × (r ≡ Ok (n, rest))
with_tag_ok t (Err k) u n rest e = cc
with_tag_ok t (Ok p) u n rest e =
    let parts = ok_pair (t, p.0) (u, n) p.1 rest e in
    let tag : t ≡ u = ap (λ q. q.0) parts.0 in
    let number : p.0 ≡ n = ap (λ q. q.1) parts.0 in
    (tag, rw (← number, ← parts.1) refl)

is_allowed_same : (x t : ℕ) → x ≡ t → is_allowed x ≡ true → IsTrue (is_allowed t)
is_allowed_same x t same ok = let is : is_allowed t ≡ true = ap is_allowed (sym same) ∙ ok in is

-- What header_at reads is an allowed tag and length octets.
pub header_at-sound : (i rest : List ℕ) (t n : ℕ) → AreBytes i → header_at i ≡ Ok ((t, n), rest)
    → (s : List ℕ) × IsLength n s × (i ≡ t ∷ s ++ rest) × (n ≤ limit) × IsTrue (is_allowed t)
unfolding header_at
header_at-sound [] rest t n octets e = cc
header_at-sound (x ∷ b) rest t n octets e =
    ⊎_elim
    (λ w.
    let parts = with_tag_ok x (length_at b) t n rest w.1 in
    let read = length_at-sound b rest n octets.1 parts.1 in
    (read.0, read.1, ap (λ z. z ∷ b) parts.0 ∙ ap (λ l. t ∷ l) read.2, read.3, is_allowed_same x t parts.0 w.0))
    (λ w. cc)
    (cond_cases (is_allowed x) (with_tag x (length_at b)) (Err (TagUnknown x)) _ e)

-- An allowed tag and length octets are read, whatever follows.
pub header_at-complete : (t n : ℕ) (s rest : List ℕ) → IsTrue (is_allowed t) → IsLength n s → n ≤ limit
    → header_at (t ∷ s ++ rest) ≡ Ok ((t, n), rest)
unfolding header_at
header_at-complete t n s rest allowed is within =
    let ok : is_allowed t ≡ true = allowed in
    rw (ok, length_at-complete n s rest is within) refl

-- An encoding at the front of bytes within the limit is read by its header.
pub tlv_header : (t : ℕ) {P : List ℕ → Type 0} (b i rest : List ℕ) → IsTrue (is_allowed t) → length i ≤ limit
    → (p : Tlv t P b) → i ≡ b ++ rest → header_at i ≡ Ok ((t, length p.contents), p.contents ++ rest)
tlv_header t b i rest allowed within p is =
    let s = p.octets in
    let c = p.contents in
    let whole : i ≡ t ∷ s ++ (c ++ rest) = is ∙ (rw (p.written, append_assoc (t ∷ s) c rest) refl) in
    let small : length c ≤ limit = omega (arith, ap length whole, length-append s (c ++ rest), length-append c rest) in
    rw whole (header_at-complete t (length c) s (c ++ rest) allowed p.counted small)

-- The errors of reading lengths are about the bytes.
long_length_at-tells : (m : ℕ) (b : List ℕ) (k : ErrorKind) → long_length_at m b ≡ Err k → TellsOfBytes k
long_length_at-tells m b k e =
    guard_tells (nat_lt (length b) m) Incomplete k _ (incomplete_error_tells refl)
    (guard_tells (is_overlong (take m b)) Overlength k _ (λ no. cc, λ no. cc, λ no. cc)
    (guard_tells (nat_lt limit (number_from_digits 256 (take m b))) Overflow k _ (λ no. cc, λ no. cc, λ no. cc)
    (λ is. cc))) e

pub length_at-tells : (b : List ℕ) (k : ErrorKind) → length_at b ≡ Err k → TellsOfBytes k
unfolding length_at
length_at-tells [] k e = incomplete_error_tells (let same : Incomplete ≡ k = cc in sym same)
length_at-tells (x ∷ b) k e =
    ⊎_elim (λ w. let is = w.1 in cc) (λ w.
    guard_tells (x == 128) IndefiniteLength k _ (λ no. cc, λ no. cc, λ no. cc)
    (guard_tells (nat_lt 132 x) Overflow k _ (λ no. cc, λ no. cc, λ no. cc) (long_length_at-tells (x - 128) b k)) w.1)
    (cond_cases (nat_lt x 128) _ _ _ e)

with_tag-err : (t : ℕ) (k : ErrorKind) (r : Result (ℕ × List ℕ) ErrorKind) → with_tag t r ≡ Err k → r ≡ Err k
with_tag-err t k (Ok p) e = cc
with_tag-err t k (Err d) e = let same : d ≡ k = cc in ap (λ x. Err x) same

pub header_at-tells : (i : List ℕ) (k : ErrorKind) → header_at i ≡ Err k → TellsOfBytes k
unfolding header_at
header_at-tells [] k e = incomplete_error_tells (let same : Incomplete ≡ k = cc in sym same)
header_at-tells (x ∷ b) k e =
    ⊎_elim (λ w. length_at-tells b k (with_tag-err x k (length_at b) w.1))
    (λ w. let is = w.1 in let same : TagUnknown x ≡ k = cc in (λ no. cc, λ no. cc, λ no. cc))
    (cond_cases (is_allowed x) _ _ _ e)

pub header_sound : (i rest : List ℕ) (h : ℕ × ℕ) → AreBytes i → header_at i ≡ Ok (h, rest)
    → (b : List ℕ) × (i ≡ b ++ rest) × HeaderEncoding h b
header_sound i rest h bytes e =
    let p = header_at-sound i rest h.0 h.1 bytes e in (h.0 ∷ p.0, p.2, (p.4, p.0, (p.3, p.1), refl))
