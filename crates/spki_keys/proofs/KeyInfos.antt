-- A SubjectPublicKeyInfo as its grammar has it, and the RSA key in it. For `src/rsa.rt`.
use Rattle.std.proofs.Common.{ℕ, List, [], ◌∷◌, ◌++◌, ◌≡◌, ◌≤◌, ◌∙◌, refl, sym, ap, subst, append-nil, Option, Some, None, take, length, length-append, arith, rules, Ok, Err, Result}
use Rattle.der_core.specs.Words.{EncodeError, StatedAs, Unwritten, another, no_encoding, no_room, stated, Spells, too_long, optional_itself, tlv_fit, ◌>>=◌}
use Rattle.spki_core.specs.Words.{algorithm_map, is_identifier-sound}
use Rattle.der_core.specs.declared.error.ErrorKind.{ErrorKind}
use Rattle.pkcs1.specs.Words.{rsa_taken, public_stated, rsa_only}
use Rattle.standard.specs.Statement.{Algorithm, Decodes, Encodes, IsAlgorithm, IsAny, IsShortest, PublicKey, TagAndContents, algorithm, any, integers, limit, rsa_encryption, sequence, tlv}
use Rattle.spki_keys.specs.KeyInfo.{KeyInfoRow, RsaKeyInfoEncoding, key_info_read, rsa_key_in, rsa_key_info_read}

-- A key with any algorithm, and its encoding.
pub record KeyInfo : Type 0 where
  pub algorithm : Algorithm TagAndContents
  pub key : PublicKey

abbrev pub key_octets : PublicKey → List ℕ
key_octets key = sequence (integers (key.modulus ∷ key.public_exponent ∷ []))

abbrev pub key_info_octets : Algorithm TagAndContents → List ℕ → List ℕ
key_info_octets a inner = sequence (algorithm any a ++ tlv 3 (0 ∷ inner))

abbrev pub KeyInfoEncoding : KeyInfo → List ℕ → Type 0
KeyInfoEncoding v bytes =
    (length bytes ≤ limit) × IsAlgorithm IsAny v.algorithm
    × (bytes ≡ key_info_octets v.algorithm (key_octets v.key))

-- What is printed of its row is what that says.
abbrev IsKeyInfoRow : KeyInfoRow → Type 0
IsKeyInfoRow v = IsAlgorithm IsAny v.0 × ((Unit {0} × (Unit {0} × Unit {0})) × Unit {0})

abbrev key_info_row_printed : KeyInfoRow → List ℕ
key_info_row_printed v =
    sequence (algorithm any v.0 ++ (tlv 3 (0 ∷ sequence (integers (v.1.0.0 ∷ v.1.0.1.0 ∷ []))) ++ []))

abbrev key_info_row_spelled : KeyInfoRow → KeyInfoRow
key_info_row_spelled v = (algorithm_map (λ p. p) v.0, v.1)

key_info_row_spelled_as_itself : (v : KeyInfoRow) → key_info_row_spelled v ≡ v
key_info_row_spelled_as_itself v i =
    (record { oid = v.0.oid; parameters = optional_itself v.0.parameters i }, v.1)

abbrev pub key_info_in : KeyInfoRow → KeyInfo
key_info_in v = record { algorithm = v.0; key = record { modulus = v.1.0.0; public_exponent = v.1.0.1.0 } }

key_info_row_ends : (v : KeyInfoRow)
    → key_info_row_printed v ≡ key_info_octets v.0 (key_octets (key_info_in v).key)
key_info_row_ends v =
    ap (λ x. sequence (algorithm any v.0 ++ x)) (append-nil (tlv 3 (0 ∷ key_octets (key_info_in v).key)))

pub key_info_law : StatedAs (λ v. IsKeyInfoRow (key_info_row_spelled v))
    (Spells IsKeyInfoRow key_info_row_printed key_info_row_spelled) (λ v. IsAlgorithm IsAny v.algorithm)
    KeyInfoEncoding key_info_in
key_info_law =
    stated key_info_row_spelled key_info_row_spelled_as_itself
    (λ w. (w.algorithm, ((w.key.modulus, (w.key.public_exponent, tt)), tt))) (λ w. refl)
    (λ v. (λ p. p.0, λ p. (p, ((tt, (tt, tt)), tt))))
    (λ v bytes. (
      λ (few, ok, is). (few, ok.0, is ∙ key_info_row_ends v),
      λ (few, ok, is). (few, (ok, ((tt, (tt, tt)), tt)), is ∙ sym (key_info_row_ends v)),
    ))

-- rsaEncryption with NULL is an algorithm.
rsa_encryption_is : IsAlgorithm IsAny rsa_encryption
rsa_encryption_is = (is_identifier-sound rsa_encryption.oid (search rules) refl, (refl, tt))

-- So what `require_rsa_encryption` refuses is another one.
pub refused_is_another : (a : Algorithm TagAndContents) (k : ErrorKind) → rsa_only a ≡ Err k → a ≡ rsa_encryption → ⊥
refused_is_another a k refused same = let never : Err k ≡ Ok tt = sym refused ∙ rsa_taken a same in cc

-- What is read of a key whose algorithm was read, and then accepted or refused.
pub rsa_key_told : (bytes : List ℕ) (v : KeyInfoRow) (r : Result (Unit {0}) ErrorKind) → key_info_read bytes ≡ Ok v
    → rsa_only v.0 ≡ r → rsa_key_info_read bytes ≡ r >>= λ _. Ok (public_stated v.1.0)
rsa_key_told bytes v r is told = ap (λ p. p >>= rsa_key_in) is ∙ ap (λ p. p >>= λ _. Ok (public_stated v.1.0)) told

-- An encoding of a key is one of the algorithm and the key.
abbrev rsa_key_info : PublicKey → KeyInfo
rsa_key_info key = record { algorithm = rsa_encryption; key = key }

rsa_key_encoded : (key : PublicKey) (bytes : List ℕ) → RsaKeyInfoEncoding key bytes
    → KeyInfoEncoding (rsa_key_info key) bytes
rsa_key_encoded key bytes (few, inner, (short, is), all) =
    (few, rsa_encryption_is, all ∙ ap (key_info_octets rsa_encryption) is)

inner_is_short : (a : Algorithm TagAndContents) (inner : List ℕ) → length inner ≤ length (key_info_octets a inner)
inner_is_short a inner =
    omega (
      arith,
      tlv_fit 3 (0 ∷ inner),
      length-append (algorithm any a) (tlv 3 (0 ∷ inner)),
      tlv_fit 48 (algorithm any a ++ tlv 3 (0 ∷ inner)),
    )

key_info_encoded : (v : KeyInfo) (bytes : List ℕ) → v.algorithm ≡ rsa_encryption → KeyInfoEncoding v bytes
    → RsaKeyInfoEncoding v.key bytes
key_info_encoded v bytes rsa (few, ok, all) = (
  few,
  key_octets v.key,
  (omega (arith, few, ap length all, inner_is_short v.algorithm (key_octets v.key)), refl),
  all ∙ ap (λ a. key_info_octets a (key_octets v.key)) rsa,
)

-- So what was read as an algorithm and a key was read as a key, if the algorithm is rsaEncryption with NULL.
pub rsa_key_read : (bytes : List ℕ) (v : KeyInfo) → v.algorithm ≡ rsa_encryption
    → Decodes KeyInfoEncoding bytes (Some v) → Decodes RsaKeyInfoEncoding bytes (Some v.key)
rsa_key_read bytes v rsa (is, one) = (
  key_info_encoded v bytes rsa is,
  λ other p. ap (λ w. w.key) (one (rsa_key_info other) (rsa_key_encoded other bytes p)),
)

pub other_key_not_read : (bytes : List ℕ) (v : KeyInfo) → (v.algorithm ≡ rsa_encryption → ⊥)
    → Decodes KeyInfoEncoding bytes (Some v) → Decodes RsaKeyInfoEncoding bytes None
other_key_not_read bytes v differs (is, one) =
    λ key p. differs (sym (ap (λ w. w.algorithm) (one (rsa_key_info key) (rsa_key_encoded key bytes p))))

pub no_key_read : (bytes : List ℕ) → Decodes KeyInfoEncoding bytes None → Decodes RsaKeyInfoEncoding bytes None
no_key_read bytes never = λ key p. never (rsa_key_info key) (rsa_key_encoded key bytes p)

-- What was written of this algorithm and a key was written of the key.
rsa_key_info_is : (v : KeyInfo) → v.algorithm ≡ rsa_encryption → rsa_key_info v.key ≡ v
rsa_key_info_is v rsa i = record { algorithm = sym rsa i; key = v.key }

-- An encoding of the key is one of both.
key_encoded_as : (v : KeyInfo) (bytes : List ℕ) → v.algorithm ≡ rsa_encryption → RsaKeyInfoEncoding v.key bytes
    → KeyInfoEncoding v bytes
key_encoded_as v bytes rsa p =
    subst (λ w. KeyInfoEncoding w bytes) (rsa_key_info_is v rsa) (rsa_key_encoded v.key bytes p)

rsa_key_shortest : (v : KeyInfo) (bytes : List ℕ) → v.algorithm ≡ rsa_encryption
    → IsShortest KeyInfoEncoding v bytes → IsShortest RsaKeyInfoEncoding v.key bytes
rsa_key_shortest v bytes rsa e =
    (key_info_encoded v bytes rsa e.0, λ other p. e.1 other (key_encoded_as v other rsa p))

pub rsa_key_written : (v : KeyInfo) (old new : List ℕ) (n : Option ℕ) → v.algorithm ≡ rsa_encryption
    → Encodes KeyInfoEncoding v old new n → Encodes RsaKeyInfoEncoding v.key old new n
rsa_key_written v old new (Some n) rsa e = (e.0, rsa_key_shortest v (take n new) rsa e.1, e.2)
rsa_key_written v old new None rsa e = (e.0, λ bytes p. e.1 bytes (key_encoded_as v bytes rsa p))

-- And what wasn't written for a reason, wasn't for the same.
pub rsa_key_unwritten : (v : KeyInfo) (room : ℕ) (e : EncodeError) → v.algorithm ≡ rsa_encryption
    → Unwritten (λ w. IsAlgorithm IsAny w.algorithm) KeyInfoEncoding v room e
    → Unwritten (λ _. Unit {0}) RsaKeyInfoEncoding v.key room e
rsa_key_unwritten v room no_encoding rsa never = λ _. never (subst (IsAlgorithm IsAny) (sym rsa) rsa_encryption_is)
rsa_key_unwritten v room too_long rsa (is, none) = (tt, λ bytes p. none bytes (key_encoded_as v bytes rsa p))
rsa_key_unwritten v room no_room rsa (bytes, shortest, less) = (bytes, rsa_key_shortest v bytes rsa shortest, less)
rsa_key_unwritten v room another rsa never = never
