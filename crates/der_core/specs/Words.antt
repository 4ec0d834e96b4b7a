-- The words that contracts and proofs cite, from all files of specs, and three of std that most proofs cite.
pub use Rattle.der_core.specs.Slices.{HasRoom, Prepends, filled_of, free_of, left_of}
pub use Rattle.der_core.specs.Counting.{Counted, sum_of}
pub use Rattle.der_core.specs.BitString.{AllocatesBehindZero, behind_zero, no_unused_bits, whole_octets}
pub use Rattle.der_core.specs.Boolean.{boolean_contents, boolean_of}
pub use Rattle.der_core.specs.Document.{EncodeError, Excludes, IsDocument, WhyNotCounted, WhyNotWritten, WithinLimit, another, no_encoding, no_room, too_long}
pub use Rattle.der_core.specs.DocumentValue.{encoding_of}
pub use Rattle.der_core.specs.EncodeToSlice.{IsFront, LeavesRest, SliceRests}
pub use Rattle.der_core.specs.Encodings.{AreBytes, HasAtMostOne, InFront, IsExactly, JoinsParts, SplitsInto}
pub use Rattle.der_core.specs.Errors.{IsFile, kind_text}
pub use Rattle.der_core.specs.Files.{FileCall, FileFault, FileGives, FileRefuses, FileTakes, Obtains, created, created_new, looked_for, opened, opened_in_place, removed, renamed, synced, with_call, with_calls}
pub use Rattle.der_core.specs.Tlv.{HeaderEncoding, LengthEncoding, Tlv, tlv}
pub use Rattle.der_core.specs.Input.{Input, ReadsOrFails, end_of, front_of, inner_of, left_in, octet_at, read_from}
unfoldable pub use Rattle.der_core.specs.Input.{header_at, length_at}
pub use Rattle.der_core.specs.Integer.{HoldsNumber, IsBitLength, IsCanonical, NumberContents, integer_contents}
pub use Rattle.der_core.specs.IntegerReading.{Answers, WhyNoNumber, integer_of, small_of}
pub use Rattle.der_core.specs.Length.{IsBase256, IsLength, length_octets, limit, long, short, tlv_len}
pub use Rattle.der_core.specs.OctetStringRefValue.{octets_of}
pub use Rattle.der_core.specs.Parts.{AllHave, AllocatesInParts, AllocatesInRow, IsNext, ItemsContents, Optional, OptionalRead, all_encodings}
pub use Rattle.der_core.specs.Printed.{AreSpelledOnce, Begins, Prints, PrintsOne, ReadsAlike, ReadsFrontAlike, ReadsFrontPrinted, ReadsPrinted, Spells, Starts, WritesShortest, begins_with_any, number_contents, number_of, ok_of, row, starts_with_any, value_in}
pub use Rattle.der_core.specs.Reading.{AllocatesAtFront, AllocatesBehind, AllocatesForItems, AllocatesLast, BeginsWithEncoding, DecodesOrMemory, FaultOrMemory, HoldsBytes, InputAllocates, NoValueOrMemory, ReadsAll, ReadsEncoding, ReadsFront, ReadsWhole, Returns, TellsNext, TellsOfBytes}
pub use Rattle.der_core.specs.Readings.{◌>>=◌, FrontReading, Reading, ReadsBy, ReadsContents, ReadsFronts, alone, by_tag, chain, checked, contents_behind, ended, expected, front_done, front_parts, in_range, inside, is_next, items, items_within, last, limited, made, no_parts, octets_of_all, optional_front, parts, ranged, read_document, such, tagged, unexpected, unless, whole}
pub use Rattle.der_core.specs.SourcesSinks.{AppendsFront, CountsFailure, GivesAll, GivesMore, GivesSome, OneFailed}
pub use Rattle.der_core.specs.StdIo.{IsCreated, IsOpened, read_faults, reader_of, write_faults, writer_of}
pub use Rattle.der_core.specs.Tag.{context_octet, integer_octet, is_allowed, object_identifier_octet, sequence_octet}
pub use Rattle.der_core.specs.Tags.{bit_string_tag, boolean_tag, integer_tag, null_tag, object_identifier_tag, octet_string_tag, sequence_tag}
pub use Rattle.der_core.specs.Transfer.{GivesNone, WhyDocumentNotRead, WhyReadingStopped, WritesAll, piece}
pub use Rattle.der_core.specs.UintRefValue.{bytes_of}
pub use Rattle.der_core.specs.UintValue.{own_bytes_of}
pub use Rattle.der_core.specs.Writers.{LacksRoom, Receives, ReceivesNothing, TakesRoom}
pub use Rattle.der_core.specs.Writing.{Appends, Checks, Counts, IsOutOfMemory, RefusedAs, Unwritten, WhyNotAppended, WhyNotChecked, WhyOctetsNotCounted, WhyOctetsNotWritten, encode_error}
pub use Rattle.der_core.specs.declared.error.Error.{Error}
pub use Rattle.der_core.specs.declared.error.ErrorKind.{ErrorKind}
pub use Rattle.der_core.specs.declared.tag.Tag.{Tag}
pub use Rattle.der_core.specs.Laws.Appended.{octets_appended_as}
pub use Rattle.der_core.specs.Laws.BitString.{behind_zero_alike, behind_zero_asks_as_contents, behind_zero_law, behind_zero_shortest}
pub use Rattle.der_core.specs.Laws.Boolean.{boolean_law}
pub use Rattle.der_core.specs.Laws.Encodings.{last_part_asks_as_it, nothing_asked, parts_ask_as_each, same_tag, tlv_not_empty, tlv_recast, tlv_short, tlv_split}
pub use Rattle.der_core.specs.Laws.Integer.{and_decides, bytes_decide, canonical_same, holds_canonical, number_decides, option_decides, written_large}
pub use Rattle.der_core.specs.Laws.Length.{length_octets-exact, length_octets-only, length_octets-short, length_octets-within}
pub use Rattle.der_core.specs.Laws.LengthReading.{are_bytes, cond_cases, header_at-complete, header_at-sound, header_at-tells, header_sound, length_at-complete, length_at-sound, length_at-tells, ok_pair, value_error_tells}
pub use Rattle.der_core.specs.Laws.Numbers.{after_ge, base256_ge}
pub use Rattle.der_core.specs.Laws.OptionalReadings.{is_next_false, is_next_false_only, is_next_true, optional_reads, tlv_front_is_next}
pub use Rattle.der_core.specs.Laws.Printed.Alike.{alone_alike, chain_alike, front_alike, front_row_alike, items_alike, itself_once, last_alike, last_once, list_once, made_alike, optional_alike, reading_alike, row_alike, row_once, tagged_alike, values_alike, whole_alike}
pub use Rattle.der_core.specs.Laws.Printed.Items.{front_reading_reads, items_law, ok_meant, ok_meant_front, ok_paired, prints_some, reading_reads, written_prints}
pub use Rattle.der_core.specs.Laws.Printed.Leaves.{integer_exact, number_contents_as, number_law, number_octets, numbers_encode, octets_canonical, octets_exact, octets_grow, octets_law, octets_number, small_law, tlv_exact, tlv_fit, tlv_is, tlv_made}
pub use Rattle.der_core.specs.Laws.Printed.Optional.{IsInRange, chain_law, checked_optional_law, front_end_law, front_row_law, last_begins, last_by_tag_law, last_law, nothing_begins, optional_begins, optional_gives, optional_part_law, optional_row_law, ranged_law, row_begins, tagged_starts, unless_alike, unless_shortest}
pub use Rattle.der_core.specs.Laws.Printed.Relations.{StatedAs, decodes_stated, encodes_stated, memory_stated, optional_itself, stated, unwritten_stated, written_encodes}
pub use Rattle.der_core.specs.Laws.Printed.Rows.{alone_law, decodes_as, end_law, expected_law, made_law, meant_decodes, prints_one, reads_printed_as, row_law, such_law, tagged_law, whole_decodes, whole_takes}
pub use Rattle.der_core.specs.Laws.Printed.Shortest.{joined_shortest, last_shortest, list_shortest, made_shortest, one_spelling_shortest, row_shortest, tagged_shortest, tagged_some, written_is_shortest}
pub use Rattle.der_core.specs.Laws.Readings.{alone_reads, any_contents_reads, back_bytes, behind_within, bind_err, bind_ok, ended_is, ended_tells, front_bytes, made_errs, made_tells, ok_injective, relation_of_equals}
pub use Rattle.der_core.specs.Laws.SliceReaders.{left_of-bounded, left_of-bytes}
pub use Rattle.der_core.specs.Laws.TaggedReadings.{by_tag_reads, checked_as, tagged_reads, unexpected_not, unexpected_tells}
pub use Rattle.std.proofs.lemmas.Bool.Decides.{nat_tests}
pub use Rattle.std.proofs.lemmas.Result.{err_from_is_err_and}
pub use Rattle.std.specs.Int.Digits.{number_from_digits}
pub use Rattle.der_core.specs.Laws.WholeReadings.{document_reads, front_reads, limited_is, limited_reads, whole_reads}
