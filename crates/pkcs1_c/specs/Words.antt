-- The words that contracts and proofs cite, from all files of specs.
pub use Rattle.pkcs1_c.specs.GivenPrimesValue.{given_key, given_primes, held_given_key, held_primes}
pub use Rattle.pkcs1_c.specs.PrimeLists.{given_encoded, prime_encoded}
pub use Rattle.pkcs1_c.specs.Status.{IsErrorNumber, IsErrorOf, IsStatusOf, NoStatus, kind_number, status_of, status_text}
pub use Rattle.pkcs1_c.specs.StructErrors.{AlgorithmError, AnyError, FieldsError, HashFieldsThen, InfoError, MaskError, Miscounted, NumberError, NumbersError, OaepFieldError, OidError, OptionError, PartThen, PlainError, PrivateKeyError, PssFieldError, PublicKeyError, UnwrittenStatus, given_numbers, numbers_of_primes, two_numbers}
pub use Rattle.pkcs1_c.specs.Structs.{AlgorithmIsTidy, ArePlaced, DecodesPrivateKey, EncodingIfHeld, HasPrivateNumbers, HasPublicNumbers, HaveBytes, HoldsPrivateKey, HoldsPublicKey, InfoHasKey, InfoIsTidy, IsShortestLength, MaskGenIsTidy, OaepIsTidy, PssIsTidy, WritesOrTells, algorithm_seen, mask_gen_seen, number_seen, numbers_of_key, numbers_of_prime, oaep_seen, octets_of_prime, other_prime_seen, other_primes_seen, private_key_info_seen, private_key_seen, pss_seen, public_key_seen}
