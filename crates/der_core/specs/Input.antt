-- What a reader has left, and what a call on it does.
use Rattle.std.specs.Prelude.{◌==◌, ◌-◌, ◌≡◌, ℕ, Bool, true, List, [], ◌∷◌, Option, Some, None, Result, Ok, Err, if◌then◌else◌, nat_lt, length, take, drop}
use Rattle.der_core.specs.declared.error.Error.{Error}
use Rattle.der_core.specs.declared.error.ErrorKind.{ErrorKind}
use Rattle.der_core.specs.declared.error.ErrorKind.TheVariants.{Failed, Incomplete, IndefiniteLength, Overflow, Overlength, TagUnknown, TrailingData}
use Rattle.std.specs.Int.Digits.{number_from_digits}
use Rattle.der_core.specs.Length.{limit}
use Rattle.der_core.specs.Tag.{is_allowed}

-- the bytes that are left, or None once the reader has failed
abbrev pub Input : Type 0
Input = Option (List ℕ)

abbrev pub left_in : Input → List ℕ
left_in None = []
left_in (Some b) = b

-- what a reading function returns for an input
abbrev pub read_from : {Y : Type 0} → Input → (List ℕ → Result Y ErrorKind) → Result Y ErrorKind
read_from None f = Err Failed
read_from (Some b) f = f b

-- A call returned what f reads, and the rest is left; or it returned the error of f, and the reader has failed.
abbrev pub ReadsOrFails : {X Y : Type 0} → (X → Y) → Result X Error → Input → Input
    → (List ℕ → Result (Y × List ℕ) ErrorKind)
    → Type 0
ReadsOrFails view (Ok x) before after f = (rest : List ℕ) × (read_from before f ≡ Ok (view x, rest))
    × (after ≡ Some rest)
ReadsOrFails view (Err e) before after f = (read_from before f ≡ Err e.kind) × (after ≡ None)

-- the first n bytes
abbrev pub front_of : ℕ → List ℕ → Result (List ℕ × List ℕ) ErrorKind
front_of n b = if nat_lt (length b) n then Err Incomplete else Ok (take n b, drop n b)

-- the first n bytes, as what a reader has left
abbrev pub inner_of : ℕ → List ℕ → Result (Input × List ℕ) ErrorKind
inner_of n b = if nat_lt (length b) n then Err Incomplete else Ok (Some (take n b), drop n b)

-- nothing, at the end
abbrev pub end_of : List ℕ → Result (Unit {0} × List ℕ) ErrorKind
end_of [] = Ok (tt, [])
end_of (x ∷ xs) = Err TrailingData

-- the first octet
abbrev pub octet_at : List ℕ → Result (ℕ × List ℕ) ErrorKind
octet_at [] = Err Incomplete
octet_at (x ∷ xs) = Ok (x, xs)

-- the short form would do, or the first octet is zero
abbrev pub is_overlong : List ℕ → Bool
is_overlong [] = true
is_overlong (x ∷ []) = nat_lt x 128
is_overlong (x ∷ y ∷ ys) = x == 0

-- the length that m octets encode
abbrev pub long_length_at : ℕ → List ℕ → Result (ℕ × List ℕ) ErrorKind
long_length_at m b =
    if nat_lt (length b) m then Err Incomplete
    else if is_overlong (take m b) then Err Overlength
    else if nat_lt limit (number_from_digits 256 (take m b)) then Err Overflow
    else Ok (number_from_digits 256 (take m b), drop m b)

-- the length at the front, or the first fault
unfoldable pub length_at : List ℕ → Result (ℕ × List ℕ) ErrorKind
length_at [] = Err Incomplete
length_at (x ∷ b) =
    if nat_lt x 128 then Ok (x, b)
    else if x == 128 then Err IndefiniteLength
    else if nat_lt 132 x then Err Overflow
    else long_length_at (x - 128) b

-- the length behind a tag
abbrev pub with_tag : ℕ → Result (ℕ × List ℕ) ErrorKind → Result ((ℕ × ℕ) × List ℕ) ErrorKind
with_tag t (Ok p) = Ok ((t, p.0), p.1)
with_tag t (Err k) = Err k

-- the tag and the length at the front, or the first fault
unfoldable pub header_at : List ℕ → Result ((ℕ × ℕ) × List ℕ) ErrorKind
header_at [] = Err Incomplete
header_at (t ∷ b) = if is_allowed t then with_tag t (length_at b) else Err (TagUnknown t)
