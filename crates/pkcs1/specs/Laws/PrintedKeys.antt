-- Other primes are read as they are printed, if their numbers are; so are versions. Public keys of numbers, in the words
-- of the statement, and their equality.
use Rattle.std.proofs.Common.{◌<◌, arith, refl, nat_lt, ℕ, List, ◌≡◌, ◌≤◌, length, subst, sym, Result, Ok, Err, option_map, ◌↔◌, Bool, ◌&&◌, ap, Decides, false, [], ◌∷◌, Option, Some, None}
use Rattle.std.specs.List.{AllByRecursion}
use Rattle.der_core.specs.Words.{nat_tests, number_law, small_law, such_law, tagged_law, reads_printed_as, value_error_tells, ReadsFrontPrinted, ReadsPrinted, number_contents, AreBytes, StatedAs, stated, decodes_as, whole_decodes, Spells, value_in, made, tagged, whole, ◌>>=◌, and_decides, items_law, end_law, row_law, tagged_some, FrontReading}
use Rattle.der_core.specs.Tags as tags
use Rattle.pkcs1.specs.KeyReadings.{number_front, public_read, version_read, rsa_public_key, lists_none, other_read, primes_read}
use Rattle.pkcs1.specs.Printing.{AnyNumber, AreSome, OtherIsValid, other_printed, primes_printed}
use Rattle.standard.specs.Statement.{integer, integers, Decodes, PublicKeyEncoding, limit, sequence}
use Rattle.der_core.specs.declared.error.ErrorKind.{ErrorKind}
use Rattle.pkcs1.specs.Keys.{OtherRow, PublicRow}
use Rattle.pkcs1.specs.StatedKeys.{public_from, public_stated}

pub integer_law : ReadsFrontPrinted AnyNumber integer number_front
integer_law = tagged_law number_law tags.integer_tag

-- Version ::= INTEGER { two-prime(0), multi(1) }
pub version_law : ReadsPrinted (λ n. n < 2) number_contents version_read
version_law =
    reads_printed_as
    (such_law small_law (λ n. n < 2) (λ n. nat_lt n 2) _ (λ n e. grind (arith, nat_tests, e))
    (λ n h. grind (arith, nat_tests, h)) (value_error_tells refl)) (λ n ok. ok.0)
    (λ n less. (less, omega (arith, less)))

-- A list that is there isn't empty.
pub some_listed : {N : Type 0} (primes : Option (List (OtherRow N))) → AreSome primes → lists_none primes ≡ false
some_listed None some = refl
some_listed (Some []) some = absurd (omega (arith, some))
some_listed (Some (x ∷ xs)) some = refl

pub are_some : {N : Type 0} (primes : Option (List (OtherRow N))) → lists_none primes ≡ false → AreSome primes
are_some None none = tt
are_some (Some []) none = cc
are_some (Some (x ∷ xs)) none = omega arith

-- One of the other primes, and their list, over numbers of any type.
module _ {N : Type 0} {valid : N → Type 0} {printed : N → List ℕ} {at : FrontReading N}
    (law : ReadsFrontPrinted valid printed at) where
  pub other_law : ReadsFrontPrinted (OtherIsValid valid) (λ other. sequence (other_printed printed other))
      (tagged tags.sequence_tag (other_read at))
  other_law = tagged_law (row_law law (row_law law (row_law law end_law))) tags.sequence_tag

  pub primes_law : ReadsPrinted (AllByRecursion (OtherIsValid valid)) (primes_printed printed) (primes_read at)
  primes_law = items_law other_law (tagged_some (other_printed printed) 48)

-- A function that makes its values of those of a law decodes their encodings, if these are what the law has.
module _ {V W : Type 0} {valid : V → Type 0} {printed : V → List ℕ} {at : FrontReading V}
    (law : ReadsFrontPrinted valid printed at) (make : V → W) (Encoding : W → List ℕ → Type 0) (from : W → V)
    (back : (w : W) → make (from w) ≡ w)
    (same : (v : V) (bytes : List ℕ)
    → ((length bytes ≤ limit) × valid v × (bytes ≡ printed v)) ↔ Encoding (make v) bytes) where
  value_made : (r : Result V ErrorKind) → option_map make (value_in r) ≡ value_in (r >>= λ v. Ok (make v))
  value_made (Ok v) = refl
  value_made (Err k) = refl

  pub made_decodes : (bytes : List ℕ) → AreBytes bytes
      → Decodes Encoding bytes (value_in (made make (whole at) bytes))
  made_decodes bytes are =
      subst (Decodes Encoding bytes) (value_made (whole at bytes))
      (decodes_as (λ v b. (length b ≤ limit) × valid v × (b ≡ printed v)) Encoding make from back bytes
      (λ v p. (same v bytes).0 p)
      (λ w p. (same (from w) bytes).1 (subst (λ u. Encoding u bytes) (sym (back w)) p))
      (value_in (whole at bytes)) (whole_decodes law bytes are))

-- == Public keys: the function of this crate reads what the statement prints of them, and nothing else ==

-- The row of a public key, which is valid whatever its numbers are, and its encoding; as the statement has it.
abbrev pub PublicIsValid : PublicRow ℕ → Type 0
PublicIsValid row = AnyNumber row.0 × (AnyNumber row.1.0 × Unit {0})

abbrev pub public_encoding : PublicRow ℕ → List ℕ
public_encoding row = sequence (integers (row.0 ∷ row.1.0 ∷ []))

pub public_law : ReadsFrontPrinted PublicIsValid public_encoding public_read
public_law = tagged_law (row_law integer_law (row_law integer_law end_law)) tags.sequence_tag

public_same_encoding : (row : PublicRow ℕ) (bytes : List ℕ)
    → ((length bytes ≤ limit) × PublicIsValid row × (bytes ≡ public_encoding row))
    ↔ PublicKeyEncoding (public_stated row) bytes
public_same_encoding row bytes = (λ (few, _, is). (few, is), λ (few, is). (few, (tt, (tt, tt)), is))

pub public_as_stated : StatedAs PublicIsValid (Spells PublicIsValid public_encoding (λ v. v)) (λ _. Unit {0})
    PublicKeyEncoding public_stated
public_as_stated =
    stated (λ v. v) (λ v. refl) public_from (λ w. refl) (λ v. (λ _. tt, λ _. (tt, (tt, tt)))) public_same_encoding

pub public_decodes : (bytes : List ℕ) → AreBytes bytes
    → Decodes PublicKeyEncoding bytes (value_in (rsa_public_key bytes))
public_decodes = made_decodes public_law public_stated PublicKeyEncoding public_from (λ key. refl) public_same_encoding

-- == Public keys are equal exactly if their numbers are ==

-- Equality of keys, given that of numbers.
pub public_key_decides : {U V : Type 0} (value : U → V) (E : U → U → Bool)
    → ((a b : U) → Decides (E a b) (value a ≡ value b)) → (m n e f : U)
    → Decides (E m n && E e f) (◌≡◌ {A = PublicRow V} (value m, (value e, tt)) (value n, (value f, tt)))
public_key_decides {U} {V} value E d m n e f =
    and_decides (d m n) (d e f) (λ p q. λ i. (p i, (q i, tt))) (λ s. ap (λ (k : PublicRow V). k.0) s)
    (λ s. ap (λ (k : PublicRow V). k.1.0) s)
