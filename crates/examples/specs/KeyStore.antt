-- Stores of private keys.
use Rattle.std.specs.Prelude.{ℕ, List, [], ◌∷◌, ◌++◌, ◌≡◌, ◌^◌, Bool, length, nat_le, Some}
use Rattle.std.specs.Int.{to_be_bytes, w32}
use Rattle.std.specs.List.{filter}
use Rattle.standard.specs.Statement.{Decodes, PrivateKey, PrivateKeyEncoding}

-- An entry: the length of a key's encoding in four octets, the highest first, and the encoding.
abbrev pub EntryEncoding : PrivateKey → List ℕ → Type 0
EntryEncoding key bytes =
    (encoding : List ℕ) × PrivateKeyEncoding key encoding × (bytes ≡ to_be_bytes w32 (length encoding) ++ encoding)

-- A store: the entries of keys, one behind the other.
abbrev pub StoreEncoding : List PrivateKey → List ℕ → Type 0
StoreEncoding [] bytes = bytes ≡ []
StoreEncoding (key ∷ keys) bytes =
    (entry : List ℕ) × (later : List ℕ) × EntryEncoding key entry × StoreEncoding keys later × (bytes ≡ entry ++ later)

-- The modulus has at least 2048 bits.
abbrev pub is_long : PrivateKey → Bool
is_long key = nat_le (2 ^ 2047) key.modulus

-- Those of them, in order.
abbrev pub long_keys : List PrivateKey → List PrivateKey
long_keys keys = filter is_long keys

-- What is written of a store: that of its keys of at least 2048 bits, in order.
abbrev pub Copies : List ℕ → List ℕ → Type 0
Copies input output =
    (keys : List PrivateKey) × Decodes StoreEncoding input (Some keys) × StoreEncoding (long_keys keys) output

-- The first entry is that of this key and no other, and this stands behind it.
abbrev pub BeginsWithEntry : PrivateKey → List ℕ → List ℕ → Type 0
BeginsWithEntry key bytes behind =
    (encoding : List ℕ) × Decodes PrivateKeyEncoding encoding (Some key)
    × (bytes ≡ to_be_bytes w32 (length encoding) ++ (encoding ++ behind))

-- No entry is in front.
abbrev pub BeginsWithNone : List ℕ → Type 0
BeginsWithNone bytes =
    (key : PrivateKey) (entry behind : List ℕ) → EntryEncoding key entry → bytes ≡ entry ++ behind → ⊥
