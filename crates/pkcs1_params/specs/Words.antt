-- The words that contracts and proofs cite, from all files of specs.
pub use Rattle.pkcs1_params.specs.Algorithms.{Identifies, NamesFirstDefaultIn, PlainEncoding, identified, parameters_as, rsa_oaep_algorithm, rsa_pss_algorithm, strict_oaep_algorithm, strict_pss_algorithm, whole_algorithm}
pub use Rattle.pkcs1_params.specs.DefaultBits.{bit_of, bits_of}
pub use Rattle.pkcs1_params.specs.Errors.{IsAsn1, error_text}
pub use Rattle.pkcs1_params.specs.HashFunctions.{AreSameMask, AreSameOaep, AreSamePss, UsesHash, hash_algorithm}
pub use Rattle.pkcs1_params.specs.Labels.{CountsLabelled, LabelOf, source_with, written_labelled, written_source}
pub use Rattle.pkcs1_params.specs.Meanings.{AnswersAsn1, AnswersAsn1OrAsks, AreDelimited, FaultsTell, IsEncoded, LeavesEncoded, Refuses, fault_in, fault_told}
pub use Rattle.pkcs1_params.specs.OaepValue.{IsBareOaep, LabelFits, NoLabelFits, OwnedOaepAllocates, labelled, oaep_in, oaep_of, oaep_viewed, oaep_with}
pub use Rattle.pkcs1_params.specs.ParameterReadings.{field_in, field_number, hash_kind, mask_kind, oaep_kinds, oaep_read, of_oaep_fields, of_pss_fields, plain_front, pss_kinds, pss_read, rsa_oaep_params, rsa_pss_params, salt_kind, source_kind, strict_oaep_params, strict_pss_params, trailer_kind, trailer_read}
pub use Rattle.pkcs1_params.specs.Parameters.{OaepParameters, PssParameters, id_mgf1, id_p_specified, id_rsa_encryption, id_sha1, octets_value, pkcs1_algorithm, with_parameters}
pub use Rattle.pkcs1_params.specs.PssValue.{IsBarePss, OwnedPssAllocates, pss_in, pss_of, pss_viewed, pss_with}
pub use Rattle.pkcs1_params.specs.Spellings.{DefaultsAreCounted, EachHasMaskZero, EachHasOneMask, EachMaskHasOne, EncodingOfFields, EncodingUnderMask, FirstWritten, HasFirstWritten, IsListingError, IsMask, MaskIsInRange, NamesFirstDefault, ShortestHasNoDefaults, encodings_in}
pub use Rattle.pkcs1_params.specs.declared.error.Error.{Error}
pub use Rattle.pkcs1_params.specs.Laws.Answers.{answers_asn1_behind, answers_asn1_decode, asn1_as, fault_in_none, whole_tells}
pub use Rattle.pkcs1_params.specs.Laws.Equality.{mask_decides, oaep_decides, plain_decides, pss_decides}
pub use Rattle.pkcs1_params.specs.Laws.FieldTags.{fields_begin_high, FieldsBeginHigh, front_contents, oaep_fields_begin_high, pss_fields_begin_high, record_differs, same_contents}
pub use Rattle.pkcs1_params.specs.Laws.Records.{mgf1_identifier, oaep_identifier, oaep_record, plain_law, pss_identifier, pss_lawful, pss_record, source_identifier, trailer_law}
pub use Rattle.pkcs1_params.specs.Laws.SameEncodings.{encodes_as, refuses_as, same_by_shortest, shortest_as, unwritten_of_same_encodings}
