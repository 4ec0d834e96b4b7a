-- The words that contracts and proofs cite, from all files of specs.
pub use Rattle.pkcs1_program.specs.Answer.{Answer, AnswerTo, Answered, ListedEncoding, Output, Outputs, PairAnswer, Puts, PutsAnswer, RsaContainerEncoding, SaysWhether, TellsContainer, TellsParameters, TellsSame, TellsSpellings, TellsStrict, TellsValue, WordAnswer, any_digits, attributes_field, bracketed_digits, hash_and_mask_fields, hex_field, identifier_digits, key_fields, key_number_fields, mask_digits, number_field, oaep_answer, other_prime_field, other_prime_fields, p8_answer, plain_digits, priv_answer, pss_answer, pub_answer, spell_answer, spelling_fields, version_field}
pub use Rattle.pkcs1_program.specs.Copied.{CopiesFile, EndsCopy, GivesWrong, IsSequenceFront, KeyFileGives, WhyFileNotRead, WhyKeyNotRead, WhyNotCopied, WritesKey, creation_after, file_error_text, file_of, left_text, write_error_text}
pub use Rattle.pkcs1_program.specs.Fault.{IsMemoryError, fault_text}
pub use Rattle.pkcs1_program.specs.Plan.{IsDone, exit_status_of, planned_by, task_of}
pub use Rattle.pkcs1_program.specs.Replaced.{Aim, AimsBeside, EndsBeside, EndsWriting, Filled, Fills, FillsFile, IsNewBeside, MakesCalls, PutsAt, PutsBeside, PutsFile, RefusesAt, RefusesBeside, RefusesFile, Removes, SinkStops, SinkTakes, absent, aim_of, aimed, beside_it, dangling, folder_named, folder_of, in_place, new_name, private_key_mode, public_key_mode, public_key_umask, refused, stopped, umask_always, whole}
pub use Rattle.pkcs1_program.specs.Request.{Asked, asked_by, asked_by_parts, asked_with, asks, asks_pair, bad_line, decoded, encoding_in_hex, lines_of, longest_input, pair_asked_with, pair_words, parts_of, request_seen, value_named, words}
pub use Rattle.pkcs1_program.specs.Written.{MakesFirst, MakesOutput, WritesFirst, WritesFront, WritesFrontOfAll, WritesHeld, WritesOut, WritesOutput}
