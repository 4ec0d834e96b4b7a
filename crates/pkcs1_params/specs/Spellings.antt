-- The encodings of a SEQUENCE of fields with defaults: one under each mask, and why one isn't written or listed.
use Rattle.std.specs.Prelude.{ℕ, List, [], ◌∷◌, ◌++◌, ◌+◌, ◌≡◌, ◌<◌, ◌≤◌, ◌^◌, ◌⊎◌, ◌↔◌, length, map, Err}
use Rattle.std.specs.Global.{Vec}
use Rattle.der_core.specs.Words.{limit, Reading, context_octet}
use Rattle.der_core.specs.declared.error.ErrorKind.{ErrorKind}
use Rattle.der_core.specs.declared.error.ErrorKind.TheVariants.{Noncanonical, OutOfMemory, Overflow}
use Rattle.der_core.specs.declared.tag.Tag.{Tag}
use Rattle.pkcs1_params.specs.Errors.{IsAsn1}
use Rattle.pkcs1_params.specs.declared.error.Error.{Error}
use Rattle.standard.specs.Statement.{Defaults, Field, Fields, FieldsUnder, IsShortest, SequenceOf, longest, sequence}

-- The SEQUENCE of fields, any of whose defaults may be left out; and the one under a mask.
abbrev pub EncodingOfFields : {V : Type 0} → (V → Type 0) → (V → List Field) → V → List ℕ → Type 0
EncodingOfFields Is fields = SequenceOf Is fields Fields

abbrev pub EncodingUnderMask : {V : Type 0} → ℕ → (V → Type 0) → (V → List Field) → V → List ℕ → Type 0
EncodingUnderMask mask Is fields = SequenceOf Is fields (FieldsUnder mask)

-- The mask is below two to the number of default fields.
abbrev pub IsMask : List Field → ℕ → Type 0
IsMask fields mask = (k : ℕ) × Defaults fields k × (mask < 2 ^ k)

-- It is, whatever that number is.
abbrev pub MaskIsInRange : List Field → ℕ → Type 0
MaskIsInRange fields mask = (k : ℕ) → Defaults fields k → mask < 2 ^ k

-- Each value has one number of default fields.
abbrev pub DefaultsAreCounted : {V : Type 0} → (V → List Field) → Type 0
DefaultsAreCounted {V} fields =
    (v : V) → (k : ℕ) × Defaults (fields v) k × ((j : ℕ) → Defaults (fields v) j → j ≡ k)

-- Each encoding stands under exactly one mask, which is below two to the number of default fields.
abbrev pub EachHasOneMask : {V : Type 0} → (V → Type 0) → (V → List Field) → Type 0
EachHasOneMask {V} Is fields =
    (v : V) (bytes : List ℕ) → EncodingOfFields Is fields v bytes
    → (mask : ℕ) × IsMask (fields v) mask × EncodingUnderMask mask Is fields v bytes
    × ((other : ℕ) → EncodingUnderMask other Is fields v bytes → other ≡ mask)

-- Each mask has at most one encoding of a value.
abbrev pub EachMaskHasOne : {V : Type 0} → (V → Type 0) → (V → List Field) → Type 0
EachMaskHasOne {V} Is fields =
    (v : V) (mask : ℕ) (x y : List ℕ) → EncodingUnderMask mask Is fields v x → EncodingUnderMask mask Is fields v y
    → (x ≡ y) × EncodingOfFields Is fields v x

-- The shortest encoding is the one in which no default is written.
abbrev pub ShortestHasNoDefaults : {V : Type 0} → (V → Type 0) → (V → List Field) → Type 0
ShortestHasNoDefaults {V} Is fields =
    (v : V) (bytes : List ℕ) → EncodingUnderMask 0 Is fields v bytes ↔ IsShortest (EncodingOfFields Is fields) v bytes

-- A value with an encoding has one in which no default is written.
abbrev pub EachHasMaskZero : {V : Type 0} → (V → Type 0) → (V → List Field) → Type 0
EachHasMaskZero {V} Is fields =
    (v : V) (bytes : List ℕ) → EncodingOfFields Is fields v bytes
    → (shortest : List ℕ) × EncodingUnderMask 0 Is fields v shortest × (length shortest ≤ length bytes)

-- The first field of contents that is written though it has its default is the n-th, from 0 on.
abbrev pub FirstWritten : List Field → ℕ → List ℕ → Type 0
FirstWritten [] n contents = ⊥
FirstWritten (f ∷ fields) n contents =
    (f.IsDefault × (n ≡ 0) × (later : List ℕ) × (contents ≡ f.written ++ later) × Fields fields later)
    ⊎ (f.IsDefault × (m : ℕ) × (n ≡ m + 1) × FirstWritten fields m contents)
    ⊎ ((f.IsDefault → ⊥) × (m : ℕ) × (n ≡ m + 1)
    × (later : List ℕ) × (contents ≡ f.written ++ later) × FirstWritten fields m later)

-- What reads shortest encodings alone gives the tag of the first default that is written, in an encoding of a value.
abbrev pub NamesFirstDefault : {V : Type 0} → (V → Type 0) → (V → List Field) → Reading V → Type 0
NamesFirstDefault {V} Is fields strictly =
    (v : V) (n : ℕ) (tag : Tag) (contents bytes : List ℕ) →
    EncodingOfFields Is fields v bytes →
    bytes ≡ sequence contents →
    FirstWritten (fields v) n contents →
    tag.octet ≡ context_octet n →
    strictly bytes ≡ Err (Noncanonical tag)

-- In each encoding that isn't the shortest a default is written, and one is the first.
abbrev pub HasFirstWritten : {V : Type 0} → (V → Type 0) → (V → List Field) → Type 0
HasFirstWritten {V} Is fields =
    (v : V) (bytes : List ℕ) → EncodingOfFields Is fields v bytes
    → IsShortest (EncodingOfFields Is fields) v bytes
    ⊎ ((n : ℕ) × (contents : List ℕ) × (bytes ≡ sequence contents) × FirstWritten (fields v) n contents)

abbrev pub encodings_in : Vec (Vec ℕ) → List (List ℕ)
encodings_in encodings = map (λ encoding. encoding.items) encodings.items

-- Why there is no list: memory ran out, though all encodings fit, or the one with every field passes the limit.
abbrev pub WhyNotListed : List Field → ErrorKind → Type 0
WhyNotListed fields e =
    ((e ≡ OutOfMemory) × (length (longest fields) ≤ limit)) ⊎ ((e ≡ Overflow) × (limit < length (longest fields)))

abbrev pub IsListingError : List Field → Error → Type 0
IsListingError fields = IsAsn1 (λ e. WhyNotListed fields e.kind)
