-- Worked rows of `Algorithms.antt` of `pkcs1_params`: algorithm identifiers with parameters of their own.
use Rattle.std.proofs.Common.{ℕ, List, [], ◌∷◌, ◌++◌, ◌≡◌, ◌≤◌, ◌+◌, length, refl, Ok, Err, Some, None}
use Rattle.std.specs.Prelude.{◌↔◌}
use Rattle.der_core.specs.Words.{AreBytes, Reading, octets_of_all, sequence_tag}
use Rattle.der_core.specs.declared.error.ErrorKind.TheVariants.{Noncanonical, OidUnknown, ParametersMissing, TagUnexpected}
use Rattle.der_core.specs.Tags.{null_tag}
use Rattle.der_core.specs.declared.tag.Tag.{Tag}
use Rattle.pkcs1_params.specs.Algorithms.{Identifies, NamesFirstDefaultIn, PlainEncoding, identified, parameters_as}
use Rattle.pkcs1_params.specs.Spellings.{EncodingOfFields, FirstWritten}
use Rattle.standard.specs.Statement.{Algorithm, AlgorithmEncoding, Field, Fields, IsAlgorithm, IsAny, TagAndContents, algorithm, any, sequence, tlv}

abbrev with_sequence : List ℕ → List ℕ → Algorithm TagAndContents
with_sequence oid contents = record { oid = oid; parameters = Some (record { tag = 48; contents = contents }) }

module _ {V : Type 0} (oid : List ℕ) (Is : V → Type 0) (fields : V → List Field) where
  identifies : (v : V) (a : Algorithm TagAndContents) → Identifies oid Is fields v a
      ↔ ((contents : List ℕ) × (a ≡ with_sequence oid contents) × Is v × Fields (fields v) contents)
  identifies v a = (λ p. p, λ p. p)

  first_default_named_in : (strictly : Reading V) → NamesFirstDefaultIn oid Is fields strictly
      ↔ ((v : V) (n : ℕ) (tag : Tag) (contents bytes : List ℕ) → AreBytes bytes
      → AlgorithmEncoding oid (EncodingOfFields Is fields) v bytes
      → bytes ≡ sequence (tlv 6 oid ++ sequence contents) → FirstWritten (fields v) n contents
      → tag.octet ≡ 160 + n → strictly bytes ≡ Err (Noncanonical tag))
  first_default_named_in strictly = (λ p. p, λ p. p)

plain_encoded : (a : Algorithm TagAndContents) (bytes : List ℕ) → PlainEncoding a bytes
    ↔ ((length bytes ≤ 4294967295) × IsAlgorithm IsAny a × (bytes ≡ algorithm any a))
plain_encoded a bytes = (λ p. p, λ p. p)

parameters_read : (parameters_as octets_of_all None ≡ Err ParametersMissing)
    × (parameters_as octets_of_all (Some (record { tag = 48; contents = 1 ∷ [] })) ≡ Ok (1 ∷ []))
    × (parameters_as octets_of_all (Some (record { tag = 5; contents = [] })) ≡ Err (TagUnexpected sequence_tag null_tag))
parameters_read = (refl, refl, refl)

identified_by : (identified (42 ∷ []) octets_of_all (with_sequence (42 ∷ []) (1 ∷ [])) ≡ Ok (1 ∷ []))
    × (identified (42 ∷ []) octets_of_all (with_sequence (43 ∷ []) (1 ∷ [])) ≡ Err OidUnknown)
identified_by = (refl, refl)
