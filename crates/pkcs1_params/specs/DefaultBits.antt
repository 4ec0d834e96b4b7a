-- Which fields differ from their defaults, as the bits of a number: the lowest is the first field's. The list says
-- which are defaults.
use Rattle.std.specs.Prelude.{ℕ, Bool, true, false, List, [], ◌∷◌, ◌+◌, ◌*◌}

abbrev pub bit_of : Bool → ℕ
bit_of true = 0
bit_of false = 1

abbrev pub bits_of : List Bool → ℕ
bits_of [] = 0
bits_of (b ∷ bs) = bit_of b + 2 * bits_of bs
