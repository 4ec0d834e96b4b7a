-- Worked rows: contents octets, with the value or the kind of the fault.
use Rattle.std.proofs.Common.{ℕ, Bool, true, false, List, [], ◌∷◌, ◌≡◌, map, refl, Ok, Err}
use Rattle.der_core.specs.Words.{ErrorKind, behind_zero, bit_string_tag, boolean_contents, boolean_of, boolean_tag, octets_of_all, whole_octets}
use Rattle.der_core.specs.declared.error.ErrorKind.TheVariants.{Length, Value}

-- BOOLEAN: ff, 00
abbrev boolean_rows : List (List ℕ × Bool)
boolean_rows = (0xff ∷ [], true) ∷ (0x00 ∷ [], false) ∷ []

boolean_rows_read : map (λ row. boolean_of row.0) boolean_rows ≡ map (λ row. Ok row.1) boolean_rows
boolean_rows_read = refl

boolean_rows_printed : map (λ row. boolean_contents row.1) boolean_rows ≡ map (λ row. row.0) boolean_rows
boolean_rows_printed = refl

-- No contents; 01, which is TRUE in BER alone (11.1); two octets.
abbrev boolean_faults : List (List ℕ × ErrorKind)
boolean_faults =
    ([], Length boolean_tag)
    ∷ (0x01 ∷ [], Value boolean_tag)
    ∷ (0xff ∷ 0x00 ∷ [], Length boolean_tag)
    ∷ []

boolean_faults_read : map (λ row. boolean_of row.0) boolean_faults ≡ map (λ row. Err row.1) boolean_faults
boolean_faults_read = refl

-- BIT STRING of whole octets: 00, 0005, 00ff00
abbrev bit_string_rows : List (List ℕ × List ℕ)
bit_string_rows =
    (0x00 ∷ [], [])
    ∷ (0x00 ∷ 0x05 ∷ [], 0x05 ∷ [])
    ∷ (0x00 ∷ 0xff ∷ 0x00 ∷ [], 0xff ∷ 0x00 ∷ [])
    ∷ []

bit_string_rows_read : map (λ row. behind_zero octets_of_all row.0) bit_string_rows ≡ map (λ row. Ok row.1) bit_string_rows
bit_string_rows_read = refl

bit_string_rows_printed : map (λ row. whole_octets (λ o. o) row.1) bit_string_rows ≡ map (λ row. row.0) bit_string_rows
bit_string_rows_printed = refl

-- No contents; 0180, one bit of seven; 08, which is no number of unused bits.
abbrev bit_string_faults : List (List ℕ × ErrorKind)
bit_string_faults =
    ([], Length bit_string_tag)
    ∷ (0x01 ∷ 0x80 ∷ [], Value bit_string_tag)
    ∷ (0x08 ∷ [], Value bit_string_tag)
    ∷ []

bit_string_faults_read : map (λ row. behind_zero octets_of_all row.0) bit_string_faults
    ≡ map (λ row. Err row.1) bit_string_faults
bit_string_faults_read = refl
