-- An optional salt: what is printed of its row is what its grammar says.
use Rattle.std.proofs.Common.{ℕ, List, ◌++◌, refl, Option, option_map}
use Rattle.der_core.specs.Words.{StatedAs, optional_itself, stated, Spells}
use Rattle.examples.specs.Salt.{IsSalt, Salt, SaltEncoding}
use Rattle.standard.specs.Statement.{AreOctets, IfPresent, integer, optional, sequence, tlv}

abbrev SaltRow : Type 0
SaltRow = ℕ × Option (List ℕ)

abbrev IsSaltRow : SaltRow → Type 0
IsSaltRow v = Unit {0} × IfPresent AreOctets v.1

abbrev salt_row_printed : SaltRow → List ℕ
salt_row_printed v = sequence (integer v.0 ++ optional (tlv 4) v.1)

-- A salt that is there is spelled as itself.
abbrev salt_row_spelled : SaltRow → SaltRow
salt_row_spelled v = (v.0, option_map (λ o. o) v.1)

abbrev salt_in : SaltRow → Salt
salt_in v = record { iterations = v.0; salt = v.1 }

pub salt_law : StatedAs (λ v. IsSaltRow (salt_row_spelled v)) (Spells IsSaltRow salt_row_printed salt_row_spelled)
    IsSalt SaltEncoding salt_in
salt_law =
    stated salt_row_spelled (λ v i. (v.0, optional_itself v.1 i)) (λ w. (w.iterations, w.salt)) (λ w. refl)
    (λ v. (λ p. p.1, λ p. (tt, p)))
    (λ v bytes. (λ (few, ok, is). (few, ok.1, is), λ (few, ok, is). (few, (tt, ok), is)))
