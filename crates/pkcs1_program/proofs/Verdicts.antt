-- A verdict says whether something is so.
use Rattle.std.proofs.Common.{◌≡◌, ℕ, inl, inr, List, ◌++◌, ◌≤◌, length, Bool, true, false, refl, subst, ap, arith, Some, Result, Ok, Err, ◌↔◌, codes, if◌then◌else◌, IsTrue, is_ok}
use Rattle.der_core.specs.Words.{EncodeError, WhyNotWritten, another, no_encoding, no_room, too_long, Prints, Spells, ok_of}
use Rattle.pkcs1_params.specs.Words.{IsEncoded}
use Rattle.standard.specs.Statement.{Decodes, IsShortest}
use Rattle.pkcs1_program.specs.Words.{SaysWhether}

abbrev pub verdict_of : List ℕ → Bool → List ℕ
verdict_of word holds = word ++ (if holds then codes " yes" else codes " no")

pub verdict_says : (word : List ℕ) (holds : Bool) (fact : Type 0) → IsTrue holds ↔ fact
    → SaysWhether word fact (verdict_of word holds)
verdict_says word true fact is = inl (is.0 refl, refl)
verdict_says word false fact is = inr ((λ so. let no : false ≡ true = is.1 so in cc), refl)

module _ {V : Type 0} (Encoding : V → List ℕ → Type 0) (bytes : List ℕ) where
  -- whether the encoding of a value is the shortest one of some value, or of this one
  pub own_shortest : (holds : Bool) (v : V) → Decodes Encoding bytes (Some v)
      → IsTrue holds ↔ IsEncoded (IsShortest Encoding) bytes
      → IsTrue holds ↔ IsShortest Encoding v bytes
  own_shortest holds v read is = (
    λ so. let (w, shortest) = is.0 so in
        subst (λ u. IsShortest Encoding u bytes) (read.1 w shortest.0) shortest,
    λ shortest. is.1 (v, shortest),
  )

  -- a call that reads
  module _ {X E : Type 0} (value : X → V) where
    pub read_is_ok : (r : Result X E) → Decodes Encoding bytes (ok_of value r)
        → IsTrue (is_ok r) ↔ IsEncoded Encoding bytes
    read_is_ok (Ok x) read = (λ so. (value x, read.0), λ some. refl)
    read_is_ok (Err e) read = (λ so. cc, λ some. absurd (read some.0 some.1))

-- A value with an encoding that fits is written.
pub is_written : {S V : Type 0} (valid : S → Type 0) (printed : S → List ℕ) (means : S → V) (Has : Type 0) (v : V)
    (room : ℕ) (encoding : List ℕ) (why : EncodeError) → Spells valid printed means v encoding
    → length encoding ≤ room → WhyNotWritten Has (Prints valid printed means) v room why → ⊥
is_written valid printed means Has v room encoding no_encoding spells fits none = none encoding spells.1
is_written valid printed means Has v room encoding too_long spells fits none = none.1 encoding spells
is_written valid printed means Has v room encoding no_room spells fits (shortest, is, less) =
    elim (is.1 encoding spells) [
      | inl same ↦ omega (arith, less, fits, ap length same)
      | inr longer ↦ omega (arith, less, fits, longer)
    ]
is_written valid printed means Has v room encoding another spells fits none = none
