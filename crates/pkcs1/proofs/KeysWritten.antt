-- Writing keys, and keys written again. No encoding is that of two kinds. For `encode_key`, `to_pkcs1_der`,
-- `src/reencode.rt`, and the law that types exclude each other.
use Rattle.std.proofs.Common.{ℕ, List, sym, Result, Ok, Err, IfErr, IfOk, ◌≡◌, ◌⊎◌, ◌∙◌, inl, inr, ap, arith, [], ◌∷◌, ◌++◌, ◌≤◌, length, append_assoc, length-append}
use Rattle.der_core.specs.Words.{EncodeError, no_encoding, too_long, no_room, another, Reading, ◌>>=◌, encode_error, Excludes, tlv_fit, prints_one, limit}
use Rattle.pkcs1.specs.Words.{Withholds, IsEncoded, Rejects, Unmade, bytes_if_read, integer_law}
use Rattle.pkcs1_params.specs.Words.{oaep_fields_begin_high, pss_fields_begin_high, record_differs, AnswersAsn1OrAsks, same_contents}
use Rattle.standard.specs.Statement.{IsShortest, PrivateKeyEncoding, PublicKeyEncoding, integer, AtMostOne, IsOaep, IsPss, OaepEncoding, PssEncoding, oaep_fields, pss_fields, integers, optional, other_primes, sequence, version}
use Rattle.der_core.specs.declared.error.ErrorKind.{ErrorKind}
use Rattle.der_core.specs.declared.error.ErrorKind.TheVariants.{OutOfMemory}
use Rattle.pkcs1_params.specs.declared.error.Error.{Error}
use Rattle.pkcs1_params.specs.declared.error.Error.TheVariants as error

-- Keys that are read from an encoding and written again.
module _ {V : Type 0} (Is : V → Type 0) {Encoding : V → List ℕ → Type 0} (one : AtMostOne Encoding) (v : V)
    (valid : Is v) (bytes : List ℕ) (encodes : Encoding v bytes) {X : Type 0} (encoding_of : X → List ℕ) where
  -- The only encoding of a value that has this encoding is this encoding.
  pub shortest_comes_out : (r : Result X Error) → IfOk r (λ document. IsShortest Encoding v (encoding_of document))
      → IfOk r (λ document. encoding_of document ≡ bytes)
  shortest_comes_out (Ok document) s = one v (encoding_of document) bytes s.0 encodes
  shortest_comes_out (Err e) s = tt

  -- Such a value is withheld for memory alone.
  unmade_is_memory : (k : ErrorKind) (c : EncodeError) → Unmade Is Encoding v k c → k ≡ OutOfMemory
  unmade_is_memory k no_encoding h = absurd (h valid)
  unmade_is_memory k too_long h = absurd (h.1 bytes encodes)
  unmade_is_memory k no_room h = absurd h
  unmade_is_memory k another h = h.0

  module _ (asked : Type 0) where
    -- So the error says that memory ran out.
    pub withheld_is_memory : (r : Result X Error) → IfErr r (Withholds Is Encoding v)
        → IfErr r (Rejects Encoding bytes (asked ⊎ IsEncoded Encoding bytes))
    withheld_is_memory (Ok document) h = tt
    withheld_is_memory (Err (error.Asn1 e)) h = inl (unmade_is_memory e.kind (encode_error e.kind) h, inr (v, encodes))
    withheld_is_memory (Err error.Crypto) h = h
    withheld_is_memory (Err error.KeyMalformed) h = h
    withheld_is_memory (Err error.Version) h = h

    -- Reading and writing again gives what was read, or memory ran out.
    pub memory_wanted : {W : Type 0} {w : W} (read : Reading W) → read bytes ≡ Ok w → (r : Result X Error)
        → IfOk r (λ document. IsShortest Encoding v (encoding_of document)) → IfErr r (Withholds Is Encoding v)
        → AnswersAsn1OrAsks encoding_of (bytes_if_read read bytes) (asked ⊎ IsEncoded Encoding bytes) r
    memory_wanted read is (Ok document) s h =
        ap (λ r. r >>= λ _. Ok bytes) is ∙ ap (λ b. Ok b) (one v bytes (encoding_of document) encodes s.0)
    memory_wanted read is (Err (error.Asn1 e)) s h =
        inl (unmade_is_memory e.kind (encode_error e.kind) h, inr (v, encodes))
    memory_wanted read is (Err error.Crypto) s h = h
    memory_wanted read is (Err error.KeyMalformed) s h = h
    memory_wanted read is (Err error.Version) s h = h

-- What holds anyway, holds of Ok.
pub ok_result_holds : {X E P : Type 0} (r : Result X E) → P → IfOk r (λ _. P)
ok_result_holds (Ok x) p = p
ok_result_holds (Err e) p = tt

-- No encoding of parameters is that of a key, which begins with an INTEGER.
pub public_pss : Excludes PublicKeyEncoding PssEncoding
public_pss k v bytes p q = record_differs IsPss pss_fields v 2 bytes _ (omega arith) (pss_fields_begin_high v) p.1 q

pub public_oaep : Excludes PublicKeyEncoding OaepEncoding
public_oaep k v bytes p q = record_differs IsOaep oaep_fields v 2 bytes _ (omega arith) (oaep_fields_begin_high v) p.1 q

pub private_pss : Excludes PrivateKeyEncoding PssEncoding
private_pss k v bytes p q = record_differs IsPss pss_fields v 2 bytes _ (omega arith) (pss_fields_begin_high v) p.2 q

pub private_oaep : Excludes PrivateKeyEncoding OaepEncoding
private_oaep k v bytes p q =
    record_differs IsOaep oaep_fields v 2 bytes _ (omega arith) (oaep_fields_begin_high v) p.2 q

-- No bytes encode both a public and a private key: more than two numbers are in a private key.
integers_split : (a b : ℕ) (ns : List ℕ) (rest : List ℕ)
    → integers (a ∷ b ∷ ns) ++ rest ≡ integer a ++ (integer b ++ (integers ns ++ rest))
integers_split a b ns rest =
    append_assoc (integer a) (integer b ++ integers ns) rest
    ∙ ap (λ l. integer a ++ l) (append_assoc (integer b) (integers ns) rest)

-- Two numbers are no beginning of three or more.
two_integers_alone : (n e a b c : ℕ) (ns rest : List ℕ) → length (integers (n ∷ e ∷ [])) ≤ limit
    → integers (n ∷ e ∷ []) ≡ integers (a ∷ b ∷ c ∷ ns) ++ rest → ⊥
two_integers_alone n e a b c ns rest few same =
    let behind = integers (c ∷ ns) ++ rest in
    let one =
    prints_one integer_law n a (integer e ++ []) (integer b ++ behind) tt tt few
    (same ∙ integers_split a b (c ∷ ns) rest) in
    let less : length (integer e ++ []) ≤ limit = omega (arith, length-append (integer n) (integer e ++ [])) in
    let two = prints_one integer_law e b [] behind tt tt less one.1 in
    cc

pub keys_exclude : Excludes PublicKeyEncoding PrivateKeyEncoding
keys_exclude v w bytes p q =
    let contents = integers (v.modulus ∷ v.public_exponent ∷ []) in
    let whole : length (sequence contents) ≤ limit = omega (arith, ap length p.1) in
    let few : length contents ≤ limit = omega (arith, tlv_fit 48 contents) in
    let others = optional other_primes w.other_primes in
    let behind =
    w.private_exponent ∷ w.prime1 ∷ w.prime2 ∷ w.exponent1 ∷ w.exponent2 ∷ w.coefficient ∷ [] in
    two_integers_alone v.modulus v.public_exponent (version w.other_primes) w.modulus w.public_exponent behind others
    few
    (same_contents contents (integers (version w.other_primes ∷ w.modulus ∷ w.public_exponent ∷ behind) ++ others) whole
    (sym p.1 ∙ q.2))
