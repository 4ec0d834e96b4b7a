-- Octets by their hexadecimal digits, for worked rows.
use Rattle.std.specs.Prelude.{ℕ, List, [], ◌∷◌, ◌+◌, ◌*◌, ◌-◌, nat_lt, if◌then◌else◌}

-- A hexadecimal digit.
unfoldable pub digit : ℕ → ℕ
digit c = if nat_lt c 58 then c - 48 else c - 87

-- The octets with these hexadecimal digits.
unfoldable pub hex : List ℕ → List ℕ
unfolding digit
hex [] = []
hex (a ∷ []) = []
hex (a ∷ b ∷ digits) = (16 * digit a + digit b) ∷ hex digits
