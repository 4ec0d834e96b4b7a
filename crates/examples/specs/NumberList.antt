-- NumberList ::= SEQUENCE { version INTEGER { v1(0), v2(1) }, numbers SEQUENCE OF INTEGER }
use Rattle.std.specs.Prelude.{ℕ, List, map, ◌≡◌, ◌≤◌, ◌<◌, ◌++◌, length}
use Rattle.der_core.specs.Words.{number_from_digits, AllocatesInParts, Prints, number_contents, number_of, AllocatesForItems, AllocatesAtFront, Reading, items, made, no_parts, parts, ranged, tagged, whole, Tlv, IsInRange, bytes_of}
use Rattle.std.specs.List.{AllByRecursion}
use Rattle.der_core.specs.Tags as tags
use Rattle.der_core.specs.declared.integer.uint.UintRef.{UintRef}
use Rattle.examples.specs.declared.number_list.NumberList as values
use Rattle.standard.specs.Statement.{integer, integers, limit, sequence, tlv}

pub record NumberList : Type 0 where
  pub version : ℕ
  pub numbers : List ℕ

abbrev pub IsNumberList : NumberList → Type 0
IsNumberList v = v.version < 2

abbrev pub NumberListEncoding : NumberList → List ℕ → Type 0
NumberListEncoding v bytes =
    (length bytes ≤ limit) × IsNumberList v × (bytes ≡ sequence (integer v.version ++ sequence (integers v.numbers)))

-- What a value of the type holds.
abbrev pub numbers_of : values.NumberList UintRef → NumberList
numbers_of list = record {
  version = list.version.0;
  numbers = map (λ n. number_from_digits 256 (bytes_of n)) list.numbers.items;
}

-- What a slice is read as: the SEQUENCE, the version in it, the list behind that, and the numbers in the list.
abbrev pub number_list_read : Reading NumberList
number_list_read =
    let list = tagged tags.sequence_tag (items (tagged tags.integer_tag number_of)) in
    let row = parts (tagged tags.integer_tag (ranged 0 1)) (parts list no_parts) in
    made (λ v. record { version = v.0; numbers = v.1.0 }) (whole (tagged tags.sequence_tag row))

-- Where reading may ask for memory: behind the version, a list begins with a number.
abbrev pub BeginsList : List ℕ → Type 0
BeginsList = Tlv 48 (AllocatesForItems (Prints (λ _. Unit {0}) integer (λ n. n)) (Tlv 2 (λ _. ⊥)))

abbrev pub MayAskMemory : List ℕ → Type 0
MayAskMemory =
    let version = Prints (IsInRange 0 1) (λ n. tlv 2 (number_contents n)) (λ n. n) in
    let list = Prints (AllByRecursion (λ _. Unit {0})) (λ ns. sequence (integers ns)) (map (λ n. n)) in
    AllocatesAtFront (Tlv 48 (AllocatesInParts version (Tlv 2 (λ _. ⊥)) (AllocatesInParts list BeginsList (λ _. ⊥))))
