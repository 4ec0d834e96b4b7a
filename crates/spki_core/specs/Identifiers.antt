-- Algorithm identifiers (RFC 5280 4.1.1.2), and the encodings of any tag (X.680 "open type") that are their parameters.
-- `Statement.antt` says what they are, and what object identifiers are (X.690 8.19).
--
--     SEQUENCE { algorithm OBJECT IDENTIFIER, parameters ANY DEFINED BY algorithm OPTIONAL }
use Rattle.std.specs.Prelude.{ℕ, Bool, List, [], Option, Some, None, ◌≡◌, ◌⊎◌, ◌++◌, ◌&&◌, eqb, option_map, bytes_eq}
use Rattle.std.specs.Option.{option_eq}
use Rattle.der_core.specs.Words.{object_identifier_octet, tlv}
use Rattle.standard.specs.Statement.{optional}
pub use Rattle.standard.specs.Statement.{Algorithm, IsAny, IsIdentifier, TagAndContents, any as written_any}

-- NULL (X.690 8.8)
abbrev pub null_value : TagAndContents
null_value = record { tag = 5; contents = [] }

-- The same identifier, with parameters that are made of others.
abbrev pub algorithm_map : {P Q : Type 0} → (P → Q) → Algorithm P → Algorithm Q
algorithm_map f a = record { oid = a.oid; parameters = option_map f a.parameters }

-- What is printed of it, without the tag of the SEQUENCE.
abbrev pub algorithm_contents : {P : Type 0} → (P → List ℕ) → Algorithm P → List ℕ
algorithm_contents printed a = tlv object_identifier_octet a.oid ++ optional printed a.parameters

-- Tests for equality.
abbrev pub same_any : TagAndContents → TagAndContents → Bool
same_any v w = eqb v.tag w.tag && bytes_eq v.contents w.contents

abbrev pub same_algorithm : {P : Type 0} → (P → P → Bool) → Algorithm P → Algorithm P → Bool
same_algorithm same a b = bytes_eq a.oid b.oid && option_eq same a.parameters b.parameters

abbrev pub same_plain : Algorithm TagAndContents → Algorithm TagAndContents → Bool
same_plain = same_algorithm same_any

abbrev pub same_mask : Algorithm (Algorithm TagAndContents) → Algorithm (Algorithm TagAndContents) → Bool
same_mask = same_algorithm same_plain

-- NULL or absent parameters, which mean the same of a hash function (RFC 4055 2.1).
abbrev pub AreNullOrAbsent : Option TagAndContents → Type 0
AreNullOrAbsent parameters = (parameters ≡ None) ⊎ (parameters ≡ Some null_value)

-- The hash function with this identifier, which algorithm identifiers name in two ways.
abbrev pub IsHash : List ℕ → Algorithm TagAndContents → Type 0
IsHash oid a = (a.oid ≡ oid) × AreNullOrAbsent a.parameters

-- Two algorithm identifiers of the same hash function: the identifiers are equal, and so are the parameters, or they are
-- NULL or absent in both.
abbrev pub AreSameHash : Algorithm TagAndContents → Algorithm TagAndContents → Type 0
AreSameHash a b =
    (a.oid ≡ b.oid)
    × ((a.parameters ≡ b.parameters) ⊎ (AreNullOrAbsent a.parameters × AreNullOrAbsent b.parameters))
