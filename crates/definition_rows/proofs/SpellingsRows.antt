-- Worked rows of `Spellings.antt` of `pkcs1_params`: the encodings of fields with defaults, each under its mask.
use Rattle.std.proofs.Common.{ℕ, List, [], ◌∷◌, ◌++◌, ◌≡◌, ◌≤◌, ◌<◌, ◌+◌, ◌^◌, ◌⊎◌, inl, inr, length, map, refl, Err}
use Rattle.std.specs.Global.{Vec}
use Rattle.std.specs.Prelude.{◌↔◌}
use Rattle.der_core.specs.Words.{Reading}
use Rattle.der_core.specs.declared.error.Error.{Error}
use Rattle.der_core.specs.declared.error.ErrorKind.{ErrorKind}
use Rattle.der_core.specs.declared.error.ErrorKind.TheVariants.{Noncanonical, OutOfMemory, Overflow}
use Rattle.der_core.specs.declared.tag.Tag.{Tag}
use Rattle.pkcs1_params.specs.Spellings.{DefaultsAreCounted, EachHasMaskZero, EachHasOneMask, EachMaskHasOne, EncodingOfFields, EncodingUnderMask, FirstWritten, HasFirstWritten, IsListingError, IsMask, MaskIsInRange, NamesFirstDefault, ShortestHasNoDefaults, WhyNotListed, encodings_in}
use Rattle.pkcs1_params.specs.declared.error.Error.TheVariants as error
use Rattle.standard.specs.Statement.{Defaults, Field, Fields, FieldsUnder, IsShortest, SequenceOf, longest, sequence}

abbrev left_or_written : List ℕ → Field
left_or_written octets = record { IsDefault = Unit {0}; written = octets }

abbrev always_written : List ℕ → Field
always_written octets = record { IsDefault = ⊥; written = octets }

second_is_first_written : FirstWritten (left_or_written (1 ∷ []) ∷ left_or_written (2 ∷ []) ∷ []) 1 (2 ∷ [])
second_is_first_written = inr (inl (tt, 0, refl, inl (tt, refl, [], refl, refl)))

written_past_another : FirstWritten (always_written (1 ∷ []) ∷ left_or_written (2 ∷ []) ∷ []) 1 (1 ∷ 2 ∷ [])
written_past_another = inr (inr ((λ no. no), 0, refl, 2 ∷ [], refl, inl (tt, refl, [], refl, refl)))

none_written : (n : ℕ) (contents : List ℕ) → FirstWritten [] n contents → ⊥
none_written n contents p = p

module _ (f : Field) (fields : List Field) (n : ℕ) (contents : List ℕ) where
  first_written_is : FirstWritten (f ∷ fields) n contents
      ↔ ((f.IsDefault × (n ≡ 0) × (later : List ℕ) × (contents ≡ f.written ++ later) × Fields fields later)
      ⊎ (f.IsDefault × (m : ℕ) × (n ≡ m + 1) × FirstWritten fields m contents)
      ⊎ ((f.IsDefault → ⊥) × (m : ℕ) × (n ≡ m + 1) × (later : List ℕ) × (contents ≡ f.written ++ later)
      × FirstWritten fields m later))
  first_written_is = (λ p. p, λ p. p)

  mask_below : IsMask fields n ↔ ((k : ℕ) × Defaults fields k × (n < 2 ^ k))
  mask_below = (λ p. p, λ p. p)

  mask_in_any_range : MaskIsInRange fields n ↔ ((k : ℕ) → Defaults fields k → n < 2 ^ k)
  mask_in_any_range = (λ p. p, λ p. p)

  why_not_listed : (e : ErrorKind) → WhyNotListed fields e
      ↔ (((e ≡ OutOfMemory) × (length (longest fields) ≤ 4294967295))
      ⊎ ((e ≡ Overflow) × (4294967295 < length (longest fields))))
  why_not_listed e = (λ p. p, λ p. p)

  listing_error : (e : Error) → (IsListingError fields (error.Asn1 e) ↔ WhyNotListed fields e.kind)
      × (IsListingError fields error.Version → ⊥)
  listing_error e = ((λ p. p, λ p. p), (λ p. p))

module _ {V : Type 0} (Is : V → Type 0) (fields : V → List Field) where
  fields_encoded : (v : V) (bytes : List ℕ) → EncodingOfFields Is fields v bytes ↔ SequenceOf Is fields Fields v bytes
  fields_encoded v bytes = (λ p. p, λ p. p)

  fields_under_mask : (mask : ℕ) (v : V) (bytes : List ℕ) → EncodingUnderMask mask Is fields v bytes
      ↔ SequenceOf Is fields (FieldsUnder mask) v bytes
  fields_under_mask mask v bytes = (λ p. p, λ p. p)

  defaults_have_one_count : DefaultsAreCounted fields
      ↔ ((v : V) → (k : ℕ) × Defaults (fields v) k × ((j : ℕ) → Defaults (fields v) j → j ≡ k))
  defaults_have_one_count = (λ p. p, λ p. p)

  one_mask_each : EachHasOneMask Is fields ↔ ((v : V) (bytes : List ℕ) → EncodingOfFields Is fields v bytes
      → (mask : ℕ) × ((k : ℕ) × Defaults (fields v) k × (mask < 2 ^ k)) × EncodingUnderMask mask Is fields v bytes
      × ((other : ℕ) → EncodingUnderMask other Is fields v bytes → other ≡ mask))
  one_mask_each = (λ p. p, λ p. p)

  one_under_mask : EachMaskHasOne Is fields ↔ ((v : V) (mask : ℕ) (x y : List ℕ)
      → EncodingUnderMask mask Is fields v x → EncodingUnderMask mask Is fields v y
      → (x ≡ y) × EncodingOfFields Is fields v x)
  one_under_mask = (λ p. p, λ p. p)

  no_defaults_in_shortest : ShortestHasNoDefaults Is fields ↔ ((v : V) (bytes : List ℕ)
      → EncodingUnderMask 0 Is fields v bytes ↔ IsShortest (EncodingOfFields Is fields) v bytes)
  no_defaults_in_shortest = (λ p. p, λ p. p)

  mask_zero_each : EachHasMaskZero Is fields ↔ ((v : V) (bytes : List ℕ) → EncodingOfFields Is fields v bytes
      → (shortest : List ℕ) × EncodingUnderMask 0 Is fields v shortest × (length shortest ≤ length bytes))
  mask_zero_each = (λ p. p, λ p. p)

  first_default_named : (strictly : Reading V) → NamesFirstDefault Is fields strictly
      ↔ ((v : V) (n : ℕ) (tag : Tag) (contents bytes : List ℕ) → EncodingOfFields Is fields v bytes
      → bytes ≡ sequence contents → FirstWritten (fields v) n contents → tag.octet ≡ 160 + n
      → strictly bytes ≡ Err (Noncanonical tag))
  first_default_named strictly = (λ p. p, λ p. p)

  some_default_written : HasFirstWritten Is fields
      ↔ ((v : V) (bytes : List ℕ) → EncodingOfFields Is fields v bytes
      → IsShortest (EncodingOfFields Is fields) v bytes
      ⊎ ((n : ℕ) × (contents : List ℕ) × (bytes ≡ sequence contents) × FirstWritten (fields v) n contents))
  some_default_written = (λ p. p, λ p. p)

listed_octets : (encodings : Vec (Vec ℕ)) → encodings_in encodings ≡ map (λ encoding. encoding.items) encodings.items
listed_octets encodings = refl
