-- RSA keys as they stand in the bytes, over numbers of any type: which ones are valid, and what is printed of them.
use Rattle.std.specs.Prelude.{ℕ, List, [], ◌++◌, ◌<◌, length, map, ◌↔◌, Option}
use Rattle.std.specs.List.{AllByRecursion, concat}
use Rattle.der_core.specs.Words.{Prints, Spells, row}
use Rattle.pkcs1.specs.Keys.{EightNumbersThen, KeyRow, OtherRow, PrivateRow, ThreeNumbersThen, front_as, other_as, others_in, private_as, private_front_parts}
use Rattle.standard.specs.Statement.{IfPresent, integer, optional, sequence}

-- Each number is valid.
abbrev pub AnyNumber : ℕ → Type 0
AnyNumber n = Unit {0}

-- If there is a list of other primes, it isn't empty.
abbrev pub AreSome : {Other : Type 0} → Option (List Other) → Type 0
AreSome primes = IfPresent (λ others. 0 < length others) primes

-- The eight numbers of a private key are valid, and what follows them; what is printed of them.
module _ {Number Rest : Type 0} where
  abbrev pub ThreeNumbersAreValid : (Number → Type 0) → (Rest → Type 0) → ThreeNumbersThen Number Rest → Type 0
  ThreeNumbersAreValid valid Follows row = valid row.0 × (valid row.1.0 × (valid row.1.1.0 × Follows row.1.1.1))

  abbrev pub EightNumbersAreValid : (Number → Type 0) → (Rest → Type 0) → EightNumbersThen Number Rest → Type 0
  EightNumbersAreValid valid Follows row =
      valid row.0 × (valid row.1.0 × (valid row.1.1.0 × (valid row.1.1.1.0 × (valid row.1.1.1.1.0
      × ThreeNumbersAreValid valid Follows row.1.1.1.1.1))))

  abbrev pub three_numbers_printed : (Number → List ℕ) → (Rest → List ℕ) → ThreeNumbersThen Number Rest → List ℕ
  three_numbers_printed printed rest = row printed (row printed (row printed rest))

  abbrev pub eight_numbers_printed : (Number → List ℕ) → (Rest → List ℕ) → EightNumbersThen Number Rest → List ℕ
  eight_numbers_printed printed rest =
      row printed (row printed (row printed (row printed (row printed (three_numbers_printed printed rest)))))

-- All numbers are valid.
module _ {Number : Type 0} (valid : Number → Type 0) where
  abbrev pub OtherIsValid : OtherRow Number → Type 0
  OtherIsValid other = valid other.0 × (valid other.1.0 × (valid other.1.1.0 × Unit {0}))

  abbrev pub OthersAreValid : Option (List (OtherRow Number)) → Type 0
  OthersAreValid primes = AreSome primes × IfPresent (AllByRecursion OtherIsValid) primes

  abbrev pub PrivateIsValid : PrivateRow Number → Type 0
  PrivateIsValid = EightNumbersAreValid valid OthersAreValid

  -- The version and the eight numbers, in front of the other primes.
  abbrev pub FrontIsValid : ℕ × EightNumbersThen Number (Unit {0}) → Type 0
  FrontIsValid front = (front.0 < 2) × EightNumbersAreValid valid (λ _. Unit {0}) front.1

  -- A row with its version.
  abbrev pub RowIsValid : {Others : Type 0} → (Others → Type 0) → KeyRow Number Others → Type 0
  RowIsValid AreValid row = (row.0 < 256) × EightNumbersAreValid valid (IfPresent AreValid) row.1

-- The contents of one of the other primes, of their list, and the list as a part.
module _ {Number : Type 0} (printed : Number → List ℕ) where
  abbrev pub other_printed : OtherRow Number → List ℕ
  other_printed = row printed (row printed (row printed (λ _. [])))

  abbrev pub primes_printed : List (OtherRow Number) → List ℕ
  primes_printed others = concat (map (λ other. sequence (other_printed other)) others)

  abbrev pub others_printed : Option (List (OtherRow Number)) → List ℕ
  others_printed = optional (λ others. sequence (primes_printed others))

  -- The contents of a private key; and joined from the right, as its row of parts is written.
  abbrev pub front_printed : ℕ × EightNumbersThen Number (Unit {0}) → List ℕ
  front_printed = row integer (eight_numbers_printed printed (λ _. []))

  abbrev pub private_printed : PrivateRow Number → List ℕ
  private_printed key = front_printed (private_front_parts key) ++ others_printed (others_in key)

  abbrev pub row_printed : {Others : Type 0} → (Others → List ℕ) → KeyRow Number Others → List ℕ
  row_printed others = row integer (eight_numbers_printed printed (optional others))

-- What is written of a key is valid.
abbrev pub PrivateIsWritten : {S V : Type 0} → (S → Type 0) → (V → S) → PrivateRow V → Type 0
PrivateIsWritten valid written key = PrivateIsValid valid (private_as written key)

-- What is in front of the other primes of a key, and one of them, of numbers that spellings mean; and the whole key,
-- within the limit.
module _ {S V : Type 0} (valid : S → Type 0) (printed : S → List ℕ) (means : S → V) where
  abbrev pub FrontPrints : ℕ × EightNumbersThen V (Unit {0}) → List ℕ → Type 0
  FrontPrints = Prints (FrontIsValid valid) (front_printed printed) (front_as means)

  abbrev pub OtherPrints : OtherRow V → List ℕ → Type 0
  OtherPrints = Prints (OtherIsValid valid) (λ other. sequence (other_printed printed other)) (other_as means)

  abbrev pub PrivateSpells : PrivateRow V → List ℕ → Type 0
  PrivateSpells = Spells (PrivateIsValid valid) (λ key. sequence (private_printed printed key)) (private_as means)

-- The encodings of a type's values within the limit are those of what the statement calls them.
abbrev pub AreStated : {S V W : Type 0} → (S → Type 0) → (S → List ℕ) → (S → V) → (V → W) → (W → List ℕ → Type 0)
    → Type 0
AreStated {V = V} valid printed means stated Encoding =
    (v : V) (bytes : List ℕ) → Spells valid printed means v bytes ↔ Encoding (stated v) bytes
