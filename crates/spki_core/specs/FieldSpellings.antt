-- Fields with defaults, of any kinds. A spelling says which fields stand there. A value has several spellings, and a
-- mask names each.
use Rattle.std.specs.Prelude.{ℕ, zero, suc, Bool, ◌+◌, ◌*◌, ◌/◌, ◌%◌, ◌==◌, ◌≡◌, ◌≤◌, List, [], ◌∷◌, ◌++◌, IsTrue, Option, Some, None, Result, if◌then◌else◌, true, false, map, Decides}
use Rattle.der_core.specs.declared.error.ErrorKind.{ErrorKind}
use Rattle.der_core.specs.Words.{ReadsFrontPrinted, FrontReading, Reading, alone, no_parts, optional_front, parts, tagged, is_allowed, made, whole, ◌>>=◌, sequence_tag}
use Rattle.der_core.specs.declared.tag.Tag.{Tag}
use Rattle.spki_core.specs.Readings.{defaulted}
use Rattle.spki_core.specs.StrictFields.{unless_found}
use Rattle.standard.specs.Statement.{Field, IfPresent, optional, tlv}

-- A field without its value: its number, which values have an encoding, the encoding, what reads it, and the default.
pub record Kind : Type 1 where
  pub Value : Type 0
  pub number : ℕ
  pub allowed : IsTrue (is_allowed (160 + number))
  pub Is : Value → Type 0
  pub printed : Value → List ℕ
  pub at : FrontReading Value
  pub default : Value
  pub is_default : Value → Bool

-- [number] EXPLICIT .. DEFAULT default
abbrev pub field : {V : Type 0} → ℕ → (V → List ℕ) → V → V → Field
field number encoding default v = record { IsDefault = v ≡ default; written = tlv (160 + number) (encoding v) }

-- The values of fields of these kinds, and the fields with them.
abbrev pub Values : List Kind → Type 0
Values [] = Unit {0}
Values (k ∷ ks) = k.Value × Values ks

abbrev pub fields_of : (ks : List Kind) → Values ks → List Field
fields_of [] v = []
fields_of (k ∷ ks) v = field k.number k.printed k.default v.0 ∷ fields_of ks v.1

abbrev pub AreValid : (ks : List Kind) → Values ks → Type 0
AreValid [] v = Unit {0}
AreValid (k ∷ ks) v = k.Is v.0 × AreValid ks v.1

-- A spelling: each field is there or not.
abbrev pub Spelling : List Kind → Type 0
Spelling [] = Unit {0}
Spelling (k ∷ ks) = Option k.Value × Spelling ks

-- What it means: a field that isn't there has its default.
abbrev pub or_default : {V : Type 0} → V → Option V → V
or_default default None = default
or_default default (Some v) = v

abbrev pub spelling_means : (ks : List Kind) → Spelling ks → Values ks
spelling_means [] s = tt
spelling_means (k ∷ ks) s = (or_default k.default s.0, spelling_means ks s.1)

abbrev pub AreSpelled : (ks : List Kind) → Spelling ks → Type 0
AreSpelled [] s = Unit {0}
AreSpelled (k ∷ ks) s = IfPresent k.Is s.0 × AreSpelled ks s.1

-- The octets of one field, and of all.
abbrev pub field_printed : (k : Kind) → k.Value → List ℕ
field_printed k v = tlv (160 + k.number) (k.printed v)

abbrev pub spelling_printed : (ks : List Kind) → Spelling ks → List ℕ
spelling_printed [] s = []
spelling_printed (k ∷ ks) s = optional (field_printed k) s.0 ++ spelling_printed ks s.1

abbrev pub tag_of : Kind → Tag
tag_of k = record { octet = 160 + k.number; allowed = k.allowed }

abbrev pub spelling_read : (ks : List Kind) → Reading (Spelling ks)
spelling_read [] = no_parts
spelling_read (k ∷ ks) =
    parts (optional_front (160 + k.number) (tagged (tag_of k) (alone k.at))) (spelling_read ks)

-- The values, read without the spelling.
abbrev pub values_read : (ks : List Kind) → Reading (Values ks)
values_read [] = no_parts
values_read (k ∷ ks) = parts (defaulted k.number k.at k.default) (values_read ks)

-- What kinds have to show: rising numbers, the law of each, a test for the default, and a default that has an encoding.
abbrev pub AreLawful : ℕ → List Kind → Type 0
AreLawful n [] = Unit {0}
AreLawful n (k ∷ ks) =
    (n ≤ k.number) × ReadsFrontPrinted k.Is k.printed k.at × ((v : k.Value) → Decides (k.is_default v) (v ≡ k.default))
    × k.Is k.default × AreLawful (k.number + 1) ks

-- The spelling of a value under a mask. Of the fields that have their defaults, each takes a bit, the lowest first,
-- which says whether it is there. Every other field is there.
abbrev pub default_by_bit : {V : Type 0} → ℕ → V → Option V
default_by_bit mask v = if mask % 2 == 0 then None else Some v

abbrev pub spelling_under : (ks : List Kind) → ℕ → Values ks → Spelling ks
spelling_under [] mask v = tt
spelling_under (k ∷ ks) mask v =
    if k.is_default v.0 then (default_by_bit mask v.0, spelling_under ks (mask / 2) v.1) else
    (Some v.0, spelling_under ks mask v.1)

-- The mask of a spelling.
abbrev pub mask_here : (k : Kind) → Option k.Value → ℕ → ℕ
mask_here k None later = 2 * later
mask_here k (Some v) later = if k.is_default v then 2 * later + 1 else later

abbrev pub mask_of : (ks : List Kind) → Spelling ks → ℕ
mask_of [] s = 0
mask_of (k ∷ ks) s = mask_here k s.0 (mask_of ks s.1)

-- How many fields have their defaults.
abbrev pub number_of_defaults : (ks : List Kind) → Values ks → ℕ
number_of_defaults [] v = 0
number_of_defaults (k ∷ ks) v = if k.is_default v.0 then number_of_defaults ks v.1 + 1 else number_of_defaults ks v.1

-- Their numbers are n and the following ones.
abbrev pub AreNumbered : ℕ → List Kind → Type 0
AreNumbered n [] = Unit {0}
AreNumbered n (k ∷ ks) = (k.number ≡ n) × AreNumbered (n + 1) ks

-- The first field that is there though it has its default (X.690 11.5).
abbrev pub written_here : (k : Kind) → Option k.Value → Option ℕ → Option ℕ
written_here k None later = later
written_here k (Some v) later = if k.is_default v then Some k.number else later

abbrev pub first_written : (ks : List Kind) → Spelling ks → Option ℕ
first_written [] s = None
first_written (k ∷ ks) s = written_here k s.0 (first_written ks s.1)

-- The value of contents in which no default is there, which is asked once all is read; and of a whole slice.
abbrev pub strict_value : (ks : List Kind) {V : Type 0} → (Values ks → V) → Spelling ks → Result V ErrorKind
strict_value ks join s = unless_found (first_written ks s) (join (spelling_means ks s))

abbrev pub strict_contents : (ks : List Kind) {V : Type 0} → (Values ks → V) → Reading V
strict_contents ks join contents = spelling_read ks contents >>= strict_value ks join

abbrev pub strict_slice : (ks : List Kind) {V : Type 0} → (Values ks → V) → Reading V
strict_slice ks join bytes = whole (tagged sequence_tag (spelling_read ks)) bytes >>= strict_value ks join

-- A field as it is written, whatever its kind is: whether it has its default, and its octets.
pub record WrittenField : Type 0 where
  pub is_default : Bool
  pub octets : List ℕ

abbrev pub field_with : (k : Kind) → k.Value → WrittenField
field_with k v = record { is_default = k.is_default v; octets = field_printed k v }

abbrev pub fields_with : (ks : List Kind) → Values ks → List WrittenField
fields_with [] v = []
fields_with (k ∷ ks) v = field_with k v.0 ∷ fields_with ks v.1

abbrev pub are_defaults : List WrittenField → List Bool
are_defaults fields = map (λ f. f.is_default) fields

-- How many of them have their defaults.
abbrev pub defaults_in : List WrittenField → ℕ
defaults_in [] = 0
defaults_in (f ∷ fields) = if f.is_default then defaults_in fields + 1 else defaults_in fields

-- Whether a field is left out under a mask, and the mask for the later ones.
abbrev pub out_under : Bool → ℕ → Bool
out_under true mask = mask % 2 == 0
out_under false mask = false

abbrev pub rest_under : Bool → ℕ → ℕ
rest_under true mask = mask / 2
rest_under false mask = mask

-- The octets of the fields under a mask.
abbrev pub octets_under : ℕ → List WrittenField → List ℕ
octets_under mask [] = []
octets_under mask (f ∷ fields) =
    (if out_under f.is_default mask then [] else f.octets) ++ octets_under (rest_under f.is_default mask) fields

-- A record of any form that holds the values of the fields: which values may be encoded, and the fields of the SEQUENCE.
pub record FieldRecord {V : Type 0} (Is : V → Type 0) (fields : V → List Field) : Type 1 where
  pub kinds : List Kind
  pub lawful : AreLawful 0 kinds
  pub numbered : AreNumbered 0 kinds
  pub join : Values kinds → V
  pub split : V → Values kinds
  pub parted : (v : Values kinds) → split (join v) ≡ v
  pub whole : (v : V) → join (split v) ≡ v
  pub is : (v : V) → AreValid kinds (split v) → Is v
  pub are : (v : V) → Is v → AreValid kinds (split v)
  pub fields_are : (v : V) → fields v ≡ fields_of kinds (split v)

module _ {V : Type 0} {Is : V → Type 0} {fields : V → List Field} (r : FieldRecord Is fields) where
  -- What a spelling means, and the spelling of a value under a mask.
  abbrev pub record_means : Spelling r.kinds → V
  record_means s = r.join (spelling_means r.kinds s)

  abbrev pub record_under : ℕ → V → Spelling r.kinds
  record_under mask v = spelling_under r.kinds mask (r.split v)

  -- Its fields as they are written.
  abbrev pub record_fields : V → List WrittenField
  record_fields v = fields_with r.kinds (r.split v)

  -- The value of contents, and of a whole slice; and of shortest encodings alone.
  abbrev pub record_read : Reading V
  record_read = made r.join (values_read r.kinds)

  abbrev pub record_whole : Reading V
  record_whole = whole (tagged sequence_tag record_read)

  abbrev pub record_strictly : Reading V
  record_strictly = strict_contents r.kinds r.join

  abbrev pub strict_whole : Reading V
  strict_whole = strict_slice r.kinds r.join

  -- The value of contents, and the first field that is there though it has its default.
  abbrev pub record_noted : Reading (V × Option ℕ)
  record_noted = made (λ s. (record_means s, first_written r.kinds s)) (spelling_read r.kinds)

-- The list of what a function gives of the numbers below n.
abbrev pub upto : {X : Type 0} → ℕ → (ℕ → X) → List X
upto zero f = []
upto (suc n) f = f 0 ∷ upto n (λ i. f (suc i))
