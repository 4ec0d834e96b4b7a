-- The words that contracts and proofs cite, from all files of specs.
pub use Rattle.pkcs1.specs.Allocating.{AllocatesForKey, AllocatesInKey, AllocatesInNumbers, AllocatesInOther, AllocatesInOthers, MayAllocate, NumberPrints, OthersFollow, OwnedKeyAllocates, OwnedPublicKeyAllocates, VersionPrints}
pub use Rattle.pkcs1.specs.Held.{HoldsNone, IsPrivateKey, held_other_prime, held_other_primes, held_private_key, held_public_key, held_view, number_in, primes_encoded}
pub use Rattle.pkcs1.specs.KeyEncodings.{AreDelimited, IsEncoded, Refuses, Rejects, Unmade, Withholds}
pub use Rattle.pkcs1.specs.KeyReadings.{bytes_if_read, fault_in, front_read, lists_none, number_front, others_agree, others_if_agreed, others_read, primes_read, private_key_read, public_read, rsa_private_key, rsa_public_key, version_read, whole_private_key}
pub use Rattle.pkcs1.specs.KeyValue.{ListsNone, crt_with, key_row, key_with, other_of, others_of, parts_row, private_key_with, public_row}
pub use Rattle.pkcs1.specs.Keys.{EightNumbersThen, KeyRow, OtherRow, PrivateRow, ThreeNumbersThen, eight_numbers_as, eight_numbers_before, key_numbers, other_as, others_as, others_in, private_as, private_front_parts, row_as, three_numbers_as, version_of}
pub use Rattle.pkcs1.specs.OtherPrimesHeld.{next_prime}
pub use Rattle.pkcs1.specs.OtherPrimesLeft.{others_left-is}
unfoldable pub use Rattle.pkcs1.specs.OtherPrimesLeft.{others_left}
pub use Rattle.pkcs1.specs.Printing.{AnyNumber, AreSome, AreStated, FrontPrints, OtherIsValid, OtherPrints, OthersAreValid, PrivateIsValid, PrivateIsWritten, PrivateSpells, RowIsValid, ThreeNumbersAreValid, front_printed, others_printed, primes_printed, private_printed, row_printed, three_numbers_printed}
pub use Rattle.pkcs1.specs.RsaEncryption.{null_only, rsa_only}
pub use Rattle.pkcs1.specs.StatedKeys.{other_from, other_stated, private_from, private_stated, public_from, public_part, public_stated}
pub use Rattle.pkcs1.specs.Versions.{IsVersionOf, version_number}
pub use Rattle.pkcs1.specs.ViewParts.{listed_others, viewed_encodes, viewed_encoding}
pub use Rattle.pkcs1.specs.Laws.KeyFaults.{printed_front_unique, private_tells, public_tells}
pub use Rattle.pkcs1.specs.Laws.KeysAlike.{fronts_alike, private_alike}
pub use Rattle.pkcs1.specs.Laws.PrimesHeld.{PrimesAreCounted, all_primes_counted, held_primes_are_one, held_primes_are_read, held_primes_behind_first, held_primes_have_first, item_shorter, next_law, next_some, no_primes_counted, one_more_prime_counted, prime_fault_counted}
pub use Rattle.pkcs1.specs.Laws.PrintedKeys.{PublicIsValid, integer_law, primes_law, public_as_stated, public_decodes, public_encoding, public_key_decides, public_law, version_law}
pub use Rattle.pkcs1.specs.Laws.PrintedPrivateKeys.{eight_numbers_behind, front_law, private_law, private_row, read_valid}
pub use Rattle.pkcs1.specs.Laws.RsaAlgorithms.{rsa_gives, rsa_only_tells, rsa_other, rsa_taken}
pub use Rattle.pkcs1.specs.Laws.ShortestKeys.{private_shortest, version_shortest}
pub use Rattle.pkcs1.specs.Laws.StatedPrivateKeys.{listed_printed, private_as_stated, private_decodes, private_encoding, private_itself, private_key_back, private_same_encoding, private_spells, private_valid, some_stated, stated_some}
