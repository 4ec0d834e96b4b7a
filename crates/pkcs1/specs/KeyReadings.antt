-- Keys as functions of the bytes (RFC 8017 A.1.1, A.1.2): the key, or the kind of the first fault.
use Rattle.std.specs.Prelude.{ℕ, Bool, true, false, List, [], ◌∷◌, ◌==◌, nat_lt, if◌then◌else◌, Option, Some, None, Err}
use Rattle.der_core.specs.declared.error.ErrorKind.TheVariants.{Value}
use Rattle.der_core.specs.Words.{small_of, number_of, FrontReading, Reading, chain, ended, front_done, front_parts, items, made, no_parts, optional_front, parts, such, tagged, whole, integer_tag, sequence_tag}
use Rattle.pkcs1.specs.Keys.{EightNumbersThen, OtherRow, PrivateRow, PublicRow, eight_numbers_before, version_of}
use Rattle.pkcs1.specs.StatedKeys.{private_stated, public_stated}
pub use Rattle.pkcs1_params.specs.Meanings.{fault_in}
use Rattle.standard.specs.Statement as standard

-- An INTEGER, as the number.
abbrev pub number_front : FrontReading ℕ
number_front = tagged integer_tag number_of

-- A public key, as its row; and a whole slice, as a public key of the statement.
abbrev pub public_read : FrontReading (PublicRow ℕ)
public_read = tagged sequence_tag (parts number_front (parts number_front no_parts))

abbrev pub rsa_public_key : Reading standard.PublicKey
rsa_public_key = made public_stated (whole public_read)

-- The version of a private key, 0 or 1.
abbrev pub version_read : Reading ℕ
version_read = such (λ n. nat_lt n 2) (Value integer_tag) small_of

-- One of the other primes, and their list.
abbrev pub other_read : {Number : Type 0} → FrontReading Number → Reading (OtherRow Number)
other_read at = parts at (parts at (parts at no_parts))

abbrev pub primes_read : {Number : Type 0} → FrontReading Number → Reading (List (OtherRow Number))
primes_read at = items (tagged sequence_tag (other_read at))

abbrev pub lists_none : {Number : Type 0} → Option (List (OtherRow Number)) → Bool
lists_none None = false
lists_none (Some []) = true
lists_none (Some (other ∷ others)) = false

-- Behind the other primes: whether they agree with the version, and then that there are some, and nothing else.
abbrev pub others_if_agreed : {Number : Type 0} → ℕ → Option (List (OtherRow Number))
    → Reading (Option (List (OtherRow Number)))
others_if_agreed version primes bytes =
    if version == version_of primes
    then (if lists_none primes then Err (Value sequence_tag) else ended primes bytes)
    else Err (Value integer_tag)

-- The same of how many there are, if there is a list.
abbrev pub others_agree : ℕ → Option ℕ → Reading (Unit {0})
others_agree version None bytes = if version == 0 then ended tt bytes else Err (Value integer_tag)
others_agree version (Some n) bytes =
    if version == 1 then (if n == 0 then Err (Value sequence_tag) else ended tt bytes) else Err (Value integer_tag)

-- What follows the eight numbers of a private key of this version.
abbrev pub others_read : {Number : Type 0} → FrontReading Number → ℕ → Reading (Option (List (OtherRow Number)))
others_read at version =
    chain (optional_front sequence_tag.octet (tagged sequence_tag (primes_read at))) (others_if_agreed version)

-- The version and the eight numbers; and the whole key.
abbrev pub front_read : {Number : Type 0} → FrontReading Number → FrontReading (ℕ × EightNumbersThen Number (Unit {0}))
front_read at =
    front_parts (tagged integer_tag version_read)
    (front_parts at (front_parts at (front_parts at (front_parts at (front_parts at (front_parts at (front_parts at
    (front_parts at front_done))))))))

abbrev pub private_key_read : {Number : Type 0} → FrontReading Number → Reading (PrivateRow Number)
private_key_read at = chain (front_read at) (λ front. made (eight_numbers_before front.1) (others_read at front.0))

-- A whole slice, as the row of a private key, and as one of the statement.
abbrev pub whole_private_key : {Number : Type 0} → FrontReading Number → Reading (PrivateRow Number)
whole_private_key at = whole (tagged sequence_tag (private_key_read at))

abbrev pub rsa_private_key : Reading standard.PrivateKey
rsa_private_key = made private_stated (whole_private_key number_front)

-- The bytes themselves, where the function reads them.
abbrev pub bytes_if_read : {V : Type 0} → Reading V → Reading (List ℕ)
bytes_if_read read bytes = made (λ _. bytes) read bytes
