-- A test for the contents of an identifier.
use Rattle.std.proofs.Common.{Bool, true, not, ◌&&◌, ◌==◌, nat_lt, ℕ, zero, suc, get_or, List, [], ◌∷◌, length}

-- The octets end with a whole subidentifier, read from the start of one or from within one.
abbrev pub ends_well : Bool → List ℕ → Bool
ends_well start [] = start
ends_well start (b ∷ bs) = not (start && b == 128) && ends_well (nat_lt b 128) bs

-- No octet is 128.
abbrev pub has_no_128 : List ℕ → Bool
has_no_128 [] = true
has_no_128 (b ∷ bs) = not (b == 128) && has_no_128 bs

-- A subidentifier starts at the index: no octets precede it, or the last of a subidentifier does.
abbrev pub starts_at : List ℕ → ℕ → Bool
starts_at c zero = true
starts_at c (suc i) = nat_lt (get_or c i 0) 128

abbrev pub is_identifier : List ℕ → Bool
is_identifier c = nat_lt 0 (length c) && nat_lt (length c) 40 && ends_well true c
