-- Where the first byte of a kind is, in bytes whose front has none. `place_of` passes such fronts piece by piece.
use Rattle.std.proofs.Common.{◌≡◌, ◌≤◌, ◌+◌, ◌-◌, ◌++◌, ◌∷◌, ◌==◌, [], ℕ, Bool, false, List, length, take, drop, Some, None, position, arith, inl, inr}
use Rattle.std.specs.List.{list_any, position_or_len}
use Rattle.std.proofs.lemmas.Bool.{cases_Bool}
use mathlib.Core.Bool.{true≢false}
use Rattle.std.proofs.lemmas.List.{take-append-drop, take_rest, drop-drop, length-take, length-drop}

-- where no item of the front passes, the first that does is behind it
first-behind : (p : ℕ → Bool) (front rest : List ℕ) → list_any p front ≡ false
    → position_or_len p (front ++ rest) ≡ length front + position_or_len p rest
first-behind p [] rest none = omega arith
first-behind p (x ∷ front) rest none = elim (cases_Bool (p x)) [
  | inl is ↦ absurd (true≢false (rw is at none))
  | inr is ↦ let more = first-behind p front rest (rw is at none) in rw is (omega arith)
]

pub pass-on : (p : ℕ → Bool) (bytes : List ℕ) (n m : ℕ) → n + m ≤ length bytes
    → list_any p (take (n + m - n) (drop n bytes)) ≡ false
    → position_or_len p bytes ≡ n + position_or_len p (drop n bytes)
    → position_or_len p bytes ≡ n + m + position_or_len p (drop (n + m) bytes)
pass-on p bytes n m within none before =
    let rest = drop n bytes in
    let far : n + m - n ≡ m = omega arith in
    let long : length (take m rest) ≡ m = rw (length-take m rest, length-drop n bytes) (omega arith) in
    let behind = first-behind p (take m rest) (drop m rest) (rw far at none) in
    let whole : position_or_len p rest ≡ m + position_or_len p (drop (n + m) bytes) =
    rw (take-append-drop m rest, long, drop-drop m n bytes) at behind in
    omega arith

pub found-behind : (byte n k : ℕ) (bytes : List ℕ) → n ≤ length bytes
    → position_or_len (λ other. other == byte) bytes ≡ n + position_or_len (λ other. other == byte) (drop n bytes)
    → Some k ≡ position (λ other. other == byte) (take (length bytes - n) (drop n bytes))
    → Some (n + k) ≡ position (λ other. other == byte) bytes
found-behind byte n k bytes within before is =
    let whole = rw (take_rest bytes n) at is in
    let long = length-drop n bytes in
    grind arith

pub none-behind : (byte n : ℕ) (bytes : List ℕ) → n ≤ length bytes
    → position_or_len (λ other. other == byte) bytes ≡ n + position_or_len (λ other. other == byte) (drop n bytes)
    → None ≡ position (λ other. other == byte) (take (length bytes - n) (drop n bytes))
    → None ≡ position (λ other. other == byte) bytes
none-behind byte n bytes within before is =
    let whole = rw (take_rest bytes n) at is in
    let long = length-drop n bytes in
    grind arith
