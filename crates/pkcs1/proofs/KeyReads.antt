-- Reading keys: a private one part by part, faults, what calls decode. A key has one encoding. For the calls that
-- decode keys, and their laws.
use Rattle.std.proofs.Common.{◌≡◌, ℕ, List, [], ap, ◌∙◌, inl, inr, Some, None, Ok, Err, subst, ◌++◌, sym}
use Rattle.der_core.specs.declared.error.ErrorKind.{ErrorKind}
use Rattle.der_core.specs.Words.{AreBytes, front_reading_reads, ReadsFrontAlike, ReadsFrontPrinted, FrontReading, ◌>>=◌, made, tagged_law, value_in, FaultOrMemory, NoValueOrMemory, Reading, prints_one}
use Rattle.pkcs1.specs.Words.{AllocatesInKey, front_read, eight_numbers_before, others_read, private_key_read, EightNumbersThen, eight_numbers_as, fronts_alike, front_law, version_number, integer_law, private_law, public_law, private_stated, public_stated, AreDelimited, public_encoding, private_key_back, private_encoding, private_spells, private_as, AnyNumber, PrivateIsValid, PublicIsValid, public_from, printed_front_unique}
use Rattle.pkcs1.specs.declared.version.Version.{Version}
use Rattle.der_core.specs.Tags as tags
use Rattle.pkcs1_params.specs.Words.{FaultsTell, same_by_shortest}
use Rattle.standard.specs.Statement.{Decodes, AtMostOne, PrivateKey, PrivateKeyEncoding, PublicKey, PublicKeyEncoding, SameByShortest}

-- What a version and eight numbers mean.
abbrev pub version_and_numbers : {U V : Type 0} → (U → V) → Version → EightNumbersThen U (Unit {0}) → ℕ
    × EightNumbersThen V (Unit {0})
version_and_numbers value v numbers = (version_number v, eight_numbers_as value (λ _. tt) numbers)

-- They are in front of other primes that are read of what follows, or of a fault of these.
module _ {V : Type 0} (at : FrontReading V) (front : ℕ × EightNumbersThen V (Unit {0})) (i rest : List ℕ)
    (read : front_read at i ≡ Ok (front, rest)) where
  pub fault_at_others : (e : ErrorKind) → others_read at front.0 rest ≡ Err e → private_key_read at i ≡ Err e
  fault_at_others e fault =
      ap (λ r. r >>= λ q. made (eight_numbers_before q.0.1) (others_read at q.0.0) q.1) read
      ∙ ap (λ r. r >>= λ o. Ok (eight_numbers_before front.1 o)) fault

-- Or of what needs memory.
pub key_fails_at_others : {S V : Type 0} {valid : S → Type 0} {printed : S → List ℕ} {spelling : FrontReading S}
    {means : S → V} {at : FrontReading V} → ReadsFrontPrinted valid printed spelling → ReadsFrontAlike spelling means at
    → (may wants : List ℕ → Type 0) (e : ErrorKind) (front : ℕ × EightNumbersThen V (Unit {0})) (i rest : List ℕ)
    → AreBytes i → front_read at i ≡ Ok (front, rest)
    → FaultOrMemory e (wants rest) (others_read at front.0 rest ≡ Err e)
    → FaultOrMemory e (AllocatesInKey valid printed means may wants i) (private_key_read at i ≡ Err e)
key_fails_at_others law alike may wants e front i rest bytes read (inl w) =
    let s = (front_reading_reads (front_law law) (fronts_alike alike)).gives i rest front bytes read in
    inl (w.0, inr (front, (s.0, rest, s.2, w.1, s.1)))
key_fails_at_others {at = at} law alike may wants e front i rest bytes read (inr f) =
    inr (fault_at_others at front i rest read e f)

-- What is made of a value that a function gives; and its faults.
module _ {V W : Type 0} (make : V → W) (read : Reading V) (bytes : List ℕ) where
  pub made_reading_ok : (v : V) → read bytes ≡ Ok v → made make read bytes ≡ Ok (make v)
  made_reading_ok v is = ap (λ r. r >>= λ v. Ok (make v)) is

  pub made_reading_fault : (k : ErrorKind) → read bytes ≡ Err k → made make read bytes ≡ Err k
  made_reading_fault k is = ap (λ r. r >>= λ v. Ok (make v)) is

  pub made_reading_faulty : (k : ErrorKind) (asked : Type 0) → FaultOrMemory k asked (read bytes ≡ Err k)
      → FaultOrMemory k asked (made make read bytes ≡ Err k)
  made_reading_faulty k asked (inl w) = inl w
  made_reading_faulty k asked (inr f) = inr (made_reading_fault k f)

-- What a call decodes that reads what a function gives, and makes a value of the statement of it.
module _ {V W : Type 0} (make : V → W) (read : Reading V) (Encoding : W → List ℕ → Type 0)
    (decodes : (bytes : List ℕ) → AreBytes bytes → Decodes Encoding bytes (value_in (made make read bytes)))
    (bytes : List ℕ) (are : AreBytes bytes) where
  pub reading_decodes_some : (v : V) → read bytes ≡ Ok v → Decodes Encoding bytes (Some (make v))
  reading_decodes_some v is =
      subst (λ g. Decodes Encoding bytes (value_in g)) (made_reading_ok make read bytes v is) (decodes bytes are)

  pub reading_decodes_none : (k : ErrorKind) → read bytes ≡ Err k → Decodes Encoding bytes None
  reading_decodes_none k is = subst (λ g. Decodes Encoding bytes (value_in g)) (made_reading_fault make read bytes k is) (decodes bytes are)

  -- The same of a call that may ask for memory.
  pub read_rejected : FaultsTell (made make read) → (k : ErrorKind) (asked : Type 0)
      → FaultOrMemory k asked (read bytes ≡ Err k) → NoValueOrMemory k asked (Decodes Encoding bytes None)
  read_rejected tells k asked (inl w) = inl w
  read_rejected tells k asked (inr f) =
      inr (tells bytes k (made_reading_fault make read bytes k f), reading_decodes_none k f)

-- A key has one encoding, and an encoding is that of one key.
pub public_key_at_most_one : AtMostOne PublicKeyEncoding
public_key_at_most_one v a b p q = p.1 ∙ sym q.1

pub private_key_at_most_one : AtMostOne PrivateKeyEncoding
private_key_at_most_one v a b p q = p.2 ∙ sym q.2

public_follow : (v w : PublicKey) (bytes rest : List ℕ) → PublicKeyEncoding v bytes
    → PublicKeyEncoding w (bytes ++ rest)
    → (v ≡ w) × (rest ≡ [])
public_follow v w bytes rest p q =
    let one =
    printed_front_unique PublicIsValid public_encoding (prints_one public_law) (public_from v) (public_from w)
    (tt, (tt, tt))
    (tt, (tt, tt)) bytes rest q.0 p.1 q.1 in
    (ap public_stated one.0, one.1)

private_follow : (v w : PrivateKey) (bytes rest : List ℕ) → PrivateKeyEncoding v bytes
    → PrivateKeyEncoding w (bytes ++ rest)
    → (v ≡ w) × (rest ≡ [])
private_follow v w bytes rest p q =
    let a = (private_spells v bytes p).1 in
    let b = (private_spells w (bytes ++ rest) q).1 in
    let one =
    printed_front_unique (PrivateIsValid AnyNumber) private_encoding
    (prints_one (tagged_law (private_law integer_law) tags.sequence_tag)) a.0 b.0 a.2 b.2 bytes rest q.0 a.3 b.3 in (
      sym (private_key_back v)
          ∙ ap private_stated (sym a.1 ∙ ap (private_as (λ n. n)) one.0 ∙ b.1)
          ∙ private_key_back w,
      one.1,
    )

pub public_delimited : AreDelimited PublicKeyEncoding
public_delimited = (λ v p. cc, public_follow)

pub private_delimited : AreDelimited PrivateKeyEncoding
private_delimited = (λ v p. cc, private_follow)

-- So two encodings mean the same key exactly if their keys have the same encoding.
pub public_key_same_by_shortest : SameByShortest PublicKeyEncoding
public_key_same_by_shortest = same_by_shortest PublicKeyEncoding public_delimited

pub private_key_same_by_shortest : SameByShortest PrivateKeyEncoding
private_key_same_by_shortest = same_by_shortest PrivateKeyEncoding private_delimited
