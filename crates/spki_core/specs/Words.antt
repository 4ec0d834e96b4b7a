-- The words that contracts and proofs cite, from all files of specs.
pub use Rattle.spki_core.specs.AlgorithmValue.{algorithm_in, algorithm_of, algorithm_with, mask_gen_in, mask_gen_of, viewed_with}
pub use Rattle.spki_core.specs.Allocating.{AlgorithmAllocates, AllocatesForParameters, FieldAllocates, NothingAskedAlone}
pub use Rattle.spki_core.specs.Explicit.{FieldRead, HasNumbered, Numbered, numbered_map, written_numbered}
pub use Rattle.spki_core.specs.FieldSpellings.{AreLawful, AreNumbered, AreSpelled, FieldRecord, Kind, Spelling, Values, WrittenField, are_defaults, defaults_in, field, field_printed, field_with, fields_of, fields_with, first_written, number_of_defaults, octets_under, or_default, out_under, record_fields, record_means, record_noted, record_read, record_strictly, record_under, record_whole, rest_under, spelling_means, spelling_printed, spelling_read, spelling_under, strict_contents, strict_slice, strict_value, strict_whole, tag_of, upto, values_read}
pub use Rattle.spki_core.specs.HeldValues.{any_of, identifier_octets, own_any_of, own_octets_of}
pub use Rattle.spki_core.specs.IdentifierTest.{ends_well, has_no_128, is_identifier, starts_at}
pub use Rattle.spki_core.specs.Identifiers.{Algorithm, AreNullOrAbsent, AreSameHash, IsAny, IsHash, IsIdentifier, TagAndContents, algorithm_contents, algorithm_map, null_value, same_any, same_mask, same_plain, written_any}
pub use Rattle.spki_core.specs.Readings.{algorithm_read, any_as, any_front, defaulted, explicit, identifier_read, numbered, opaque}
pub use Rattle.spki_core.specs.StrictFields.{noncanonical, noted_accepted, noted_on, tag_number_in, unless_found}
pub use Rattle.spki_core.specs.Laws.AnyValues.{HoldsAny, IsMapped, algorithm_decides, any_decides, holds_decides, holds_itself, mapped_same, same_mask_decides, same_plain_decides}
pub use Rattle.spki_core.specs.Laws.FieldSpellings.Masks.{defaults_are, defaults_there, full, full_last, full_there, spelling_masked, under_is, under_mask, under_means, under_only, under_valid}
pub use Rattle.spki_core.specs.Laws.FieldSpellings.Records.{record_alike, record_front_law, record_law, record_reads, record_shortest, spelled_from, spelled_to}
pub use Rattle.spki_core.specs.Laws.FieldSpellings.Shortest.{defaults_same, octets_spelled, spelled_not_next}
pub use Rattle.spki_core.specs.Laws.HaveEncodings.{WritesAs, algorithm_asks_as_parameters, algorithm_held, algorithm_once, any_held, identifier_held, own_any_held, viewed_held, writes_itself}
pub use Rattle.spki_core.specs.Laws.IdentifierTest.{ends_well_goes_on, is_identifier-complete, is_identifier-sound}
pub use Rattle.spki_core.specs.Laws.Printed.Readings.{algorithm_alike, algorithm_law, any_law, any_values, numbered_alike, numbered_law, oid_law}
pub use Rattle.spki_core.specs.Laws.Printed.Shortest.{algorithm_writes_shortest, any_some, numbered_some, numbered_writes_shortest}
pub use Rattle.spki_core.specs.Laws.Readings.{defaulted_reads, explicit_is, explicit_reads}
