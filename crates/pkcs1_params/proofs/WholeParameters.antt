-- Whole slices that are read as parameters. For `src/reading.rt`.
use Rattle.std.proofs.Common.{ℕ, Bool, List, [], ◌∷◌, ◌≡◌, ◌≤◌, ◌<◌, ◌∙◌, ap, Ok, Err, arith, length, refl, if◌then◌else◌, Option, Result}
use Rattle.der_core.specs.declared.error.ErrorKind.{ErrorKind}
use Rattle.der_core.specs.declared.error.ErrorKind.TheVariants.{TrailingData}
use Rattle.der_core.specs.Words.{AreBytes, ◌>>=◌, alone, ended, limit, octets_of_all, ok_of, sequence_tag, tagged, whole, limited_is}
use Rattle.der_core.proofs.Splitting.{read_inside}
use Rattle.der_core.proofs.ReadSteps.{fault_inside, split_errs}
use Rattle.spki_core.specs.Words.{FieldRecord, noted_accepted, record_noted, record_whole, strict_whole}
use Rattle.spki_core.proofs.Noting.{slice_noted, unless_strict, value_accepted, value_rejected}
use Rattle.spki_core.proofs.RecordEncodings.{record_decodes}
use Rattle.spki_core.proofs.StrictFields.{strict_decodes}
use Rattle.pkcs1_params.specs.Words.{AnswersAsn1, EncodingOfFields, Error, answers_asn1_decode}
use Rattle.standard.specs.Statement.{Decodes, Field, IsShortest}

-- The exits of reading a slice whose SEQUENCE has these contents, strictly or not.
module _ {V : Type 0} {Is : V → Type 0} {fields : V → List Field} (r : FieldRecord Is fields) (strict : Bool)
    (bytes : List ℕ)
  where
    pub slice_fails : {k : ErrorKind} → whole (tagged sequence_tag (record_noted r)) bytes ≡ Err k
        → (if strict then strict_whole r else record_whole r) bytes ≡ Err k
    slice_fails e = slice_noted r strict bytes ∙ ap (λ o. o >>= unless_strict strict) e

    module _ (few : length bytes ≤ limit) where
      alone_is : whole (tagged sequence_tag (record_noted r)) bytes
          ≡ (tagged sequence_tag (record_noted r) bytes >>= λ p. ended p.0 p.1)
      alone_is = limited_is (alone (tagged sequence_tag (record_noted r))) bytes few

      pub no_sequence : (k : ErrorKind) → tagged sequence_tag octets_of_all bytes ≡ Err k
          → (if strict then strict_whole r else record_whole r) bytes ≡ Err k
      no_sequence k e =
          slice_fails (alone_is ∙ ap (λ o. o >>= λ p. ended p.0 p.1) (split_errs sequence_tag (record_noted r) k bytes e))

      module _ (contents rest : List ℕ) (split : tagged sequence_tag octets_of_all bytes ≡ Ok (contents, rest)) where
        pub no_fields : (k : ErrorKind) → record_noted r contents ≡ Err k
            → (if strict then strict_whole r else record_whole r) bytes ≡ Err k
        no_fields k e =
            slice_fails (alone_is ∙ ap (λ o. o >>= λ p. ended p.0 p.1)
            (fault_inside sequence_tag (record_noted r) bytes contents rest k split e))

        module _ (v : V × Option ℕ) (read : record_noted r contents ≡ Ok v) where
          slice_ended : whole (tagged sequence_tag (record_noted r)) bytes ≡ ended v rest
          slice_ended =
              alone_is
              ∙ ap (λ o. o >>= λ p. ended p.0 p.1) (read_inside sequence_tag (record_noted r) bytes contents rest v split read)

          pub bytes_behind : 0 < length rest → (if strict then strict_whole r else record_whole r) bytes ≡ Err TrailingData
          bytes_behind some = slice_fails (slice_ended ∙ go rest some)
            where
              go : (rest : List ℕ) → 0 < length rest → ended v rest ≡ Err TrailingData
              go [] some = absurd (omega arith)
              go (x ∷ xs) some = refl

          all_read : length rest ≡ 0 → (if strict then strict_whole r else record_whole r) bytes ≡ unless_strict strict v
          all_read none = slice_noted r strict bytes ∙ ap (λ o. o >>= unless_strict strict) (slice_ended ∙ go rest none)
            where
              go : (rest : List ℕ) → length rest ≡ 0 → ended v rest ≡ Ok v
              go [] none = refl
              go (x ∷ xs) none = absurd (omega arith)

          pub slice_rejected : length rest ≡ 0 → (k : ErrorKind) → noted_accepted strict v.1 ≡ Err k
              → (if strict then strict_whole r else record_whole r) bytes ≡ Err k
          slice_rejected none k e = all_read none ∙ value_rejected r strict v.0 v.1 k e

          pub slice_accepted : length rest ≡ 0 → noted_accepted strict v.1 ≡ Ok tt
              → (if strict then strict_whole r else record_whole r) bytes ≡ Ok v.0
          slice_accepted none e = all_read none ∙ value_accepted r strict v.0 v.1 e

module _ {V : Type 0} {Is : V → Type 0} {fields : V → List Field} (r : FieldRecord Is fields) (bytes : List ℕ) where
  -- What a call decodes that returns what was read, strictly too.
  pub record_whole_decodes : {X : Type 0} (value : X → V) (result : Result X Error) → AreBytes bytes
      → AnswersAsn1 value (record_whole r bytes) result
      → Decodes (EncodingOfFields Is fields) bytes (ok_of value result)
  record_whole_decodes value result are =
      answers_asn1_decode (EncodingOfFields Is fields) bytes value _ (record_decodes r bytes are) result

  pub strict_whole_decodes : {X : Type 0} (value : X → V) (result : Result X Error) → AreBytes bytes
      → AnswersAsn1 value (strict_whole r bytes) result
      → Decodes (IsShortest (EncodingOfFields Is fields)) bytes (ok_of value result)
  strict_whole_decodes value result are =
      answers_asn1_decode (IsShortest (EncodingOfFields Is fields)) bytes value _ (strict_decodes r bytes are) result
