-- Private keys: the function of this crate gives a key exactly of the bytes that encode one, as the statement has it.
use Rattle.std.proofs.Common.{ℕ, List, [], ◌∷◌, ◌++◌, ◌≡◌, ◌≤◌, length, refl, sym, subst, ap, map, ◌∙◌, arith, Option, Some, None, option_map, ◌↔◌}
use Rattle.std.specs.List.{AllByRecursion, concat}
use Rattle.der_core.specs.Words.{AreBytes, StatedAs, stated, tagged_law, value_in}
use Rattle.der_core.specs.Tags as tags
use Rattle.pkcs1.specs.Held.{IsPrivateKey}
use Rattle.pkcs1.specs.KeyReadings.{rsa_private_key}
use Rattle.pkcs1.specs.Keys.{OtherRow, PrivateRow, eight_numbers_before, key_numbers, other_as, others_as, others_in, private_as, version_of}
use Rattle.pkcs1.specs.Laws.PrintedKeys.{integer_law, made_decodes}
use Rattle.pkcs1.specs.Laws.PrintedPrivateKeys.{private_law}
use Rattle.pkcs1.specs.Printing.{AnyNumber, AreSome, OtherIsValid, PrivateIsValid, PrivateIsWritten, PrivateSpells, other_printed, others_printed, private_printed}
use Rattle.pkcs1.specs.StatedKeys.{other_from, other_stated, private_from, private_stated}
use Rattle.standard.specs.Statement as standard
use Rattle.standard.specs.Statement.{Decodes, IfPresent, PrivateKeyEncoding, integers, limit, optional, sequence}

abbrev PrimesOfNumbers : Type 0
PrimesOfNumbers = Option (List (OtherRow ℕ))

abbrev others_stated : PrimesOfNumbers → Option (List standard.OtherPrime)
others_stated = option_map (map other_stated)

-- Keys of the statement, for keys of this crate and back.
listed_back : (others : List standard.OtherPrime) → map other_stated (map other_from others) ≡ others
listed_back [] = refl
listed_back (other ∷ others) = ap (λ rest. other ∷ rest) (listed_back others)

others_back : (primes : Option (List standard.OtherPrime)) → others_stated (option_map (map other_from) primes) ≡ primes
others_back None = refl
others_back (Some others) = ap (λ o. Some o) (listed_back others)

pub private_key_back : (key : standard.PrivateKey) → private_stated (private_from key) ≡ key
private_key_back key = ap (λ primes. record {
  modulus = key.modulus;
  public_exponent = key.public_exponent;
  private_exponent = key.private_exponent;
  prime1 = key.prime1;
  prime2 = key.prime2;
  exponent1 = key.exponent1;
  exponent2 = key.exponent2;
  coefficient = key.coefficient;
  other_primes = primes;
}) (others_back key.other_primes)

-- A key whose numbers mean themselves.
listed_itself : {N : Type 0} (others : List (OtherRow N)) → map (other_as (λ n. n)) others ≡ others
listed_itself [] = refl
listed_itself (other ∷ others) = ap (λ rest. other ∷ rest) (listed_itself others)

others_itself : {N : Type 0} (primes : Option (List (OtherRow N))) → others_as (λ n. n) primes ≡ primes
others_itself None = refl
others_itself (Some others) = ap (λ o. Some o) (listed_itself others)

pub private_itself : {N : Type 0} (key : PrivateRow N) → private_as (λ n. n) key ≡ key
private_itself key = ap (eight_numbers_before key) (others_itself (others_in key))

-- What is printed of them.
abbrev pub other_encoded : standard.OtherPrime → List ℕ
other_encoded o = sequence (integers (o.prime ∷ o.exponent ∷ o.coefficient ∷ []))

abbrev pub prime_encoding : OtherRow ℕ → List ℕ
prime_encoding other = sequence (other_printed standard.integer other)

pub listed_printed : (others : List (OtherRow ℕ))
    → map other_encoded (map other_stated others) ≡ map prime_encoding others
listed_printed [] = refl
listed_printed (other ∷ others) = ap (λ rest. prime_encoding other ∷ rest) (listed_printed others)

stated_printed : (primes : PrimesOfNumbers)
    → optional standard.other_primes (others_stated primes) ≡ others_printed standard.integer primes
stated_printed None = refl
stated_printed (Some others) = ap (λ all. sequence (concat all)) (listed_printed others)

version_stated : (primes : PrimesOfNumbers) → standard.version (others_stated primes) ≡ version_of primes
version_stated None = refl
version_stated (Some others) = refl

abbrev pub private_encoding : PrivateRow ℕ → List ℕ
private_encoding key = sequence (private_printed standard.integer key)

key_printed : (key : PrivateRow ℕ)
    → sequence (integers (standard.version (others_stated (others_in key)) ∷ key_numbers key)
    ++ optional standard.other_primes (others_stated (others_in key))) ≡ private_encoding key
key_printed key = λ i.
    sequence (integers (version_stated (others_in key) i ∷ key_numbers key) ++ stated_printed (others_in key) i)

-- Which of them are valid.
pub some_stated : (primes : PrimesOfNumbers) → AreSome primes → AreSome (others_stated primes)
some_stated None some = tt
some_stated (Some []) some = some
some_stated (Some (x ∷ xs)) some = omega arith

pub stated_some : (primes : PrimesOfNumbers) → AreSome (others_stated primes) → AreSome primes
stated_some None some = tt
stated_some (Some []) some = some
stated_some (Some (x ∷ xs)) some = omega arith

listed_valid : (others : List (OtherRow ℕ)) → AllByRecursion (OtherIsValid AnyNumber) others
listed_valid [] = tt
listed_valid (other ∷ others) = ((tt, (tt, (tt, tt))), listed_valid others)

others_valid : (primes : PrimesOfNumbers) → IfPresent (AllByRecursion (OtherIsValid AnyNumber)) primes
others_valid None = tt
others_valid (Some others) = listed_valid others

pub private_valid : (key : PrivateRow ℕ) → AreSome (others_in key) → PrivateIsValid AnyNumber key
private_valid key some =
    (tt, (tt, (tt, (tt, (tt, (tt, (tt, (tt, (some, others_valid (others_in key))))))))))

-- The spellings of a row are the encodings of what the statement calls it; so a whole slice is read as one.
pub private_same_encoding : (key : PrivateRow ℕ) (bytes : List ℕ)
    → ((length bytes ≤ limit) × PrivateIsValid AnyNumber key × (bytes ≡ private_encoding key))
    ↔ PrivateKeyEncoding (private_stated key) bytes
private_same_encoding key bytes = (
  λ (few, valid, is).
      (few, some_stated (others_in key) valid.1.1.1.1.1.1.1.1.0, is ∙ sym (key_printed key)),
  λ (few, some, is). (few, private_valid key (stated_some (others_in key) some), is ∙ key_printed key),
)

pub private_as_stated : StatedAs (PrivateIsWritten AnyNumber (λ n. n)) (PrivateSpells AnyNumber standard.integer (λ n. n))
    IsPrivateKey PrivateKeyEncoding private_stated
private_as_stated =
    stated (private_as (λ n. n)) private_itself private_from private_key_back
    (λ key. (
      λ valid. some_stated (others_in key) valid.1.1.1.1.1.1.1.1.0,
      λ some. private_valid key (stated_some (others_in key) some),
    ))
    private_same_encoding

pub private_spells : (key : standard.PrivateKey) (bytes : List ℕ) → PrivateKeyEncoding key bytes
    → PrivateSpells AnyNumber standard.integer (λ n. n) (private_from key) bytes
private_spells key bytes encodes =
    (private_as_stated.same (private_from key) bytes).1
    (subst (λ k. PrivateKeyEncoding k bytes) (sym (private_key_back key)) encodes)

pub private_decodes : (bytes : List ℕ) → AreBytes bytes
    → Decodes PrivateKeyEncoding bytes (value_in (rsa_private_key bytes))
private_decodes =
    made_decodes (tagged_law (private_law integer_law) tags.sequence_tag) private_stated PrivateKeyEncoding private_from
    private_key_back private_same_encoding
