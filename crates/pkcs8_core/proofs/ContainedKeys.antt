-- Containers: faults, the key in one, and what they exclude. For `src/rsa.rt`, and the calls and laws of `src/info.rt`.
use Rattle.std.proofs.Common.{ℕ, List, [], ◌≡◌, refl, sym, ap, ◌∙◌, ⊎_elim, Option, Some, None, Ok, Err, ◌++◌, subst, inl, inr, IfErr, IfOk, Result, ◌∷◌, ◌≤◌, length, arith, append-nil, append_assoc, slice_index}
use Rattle.der_core.specs.declared.error.ErrorKind.{ErrorKind}
use Rattle.der_core.specs.declared.tag.Tag.{Tag}
use Rattle.der_core.specs.Words.{bind_err, TellsOfBytes, AreBytes, prints_one, tagged_law, value_in, ◌>>=◌, Excludes, tlv_fit, ok_injective, limit, ReadsPrinted, number_contents, octets_of_all}
use Rattle.pkcs1_params.specs.Words.{AnswersAsn1OrAsks, AreDelimited, asn1_as, oaep_fields_begin_high, pss_fields_begin_high, record_differs}
use Rattle.pkcs1.specs.Words.{private_tells, printed_front_unique, rsa_gives, rsa_only_tells, rsa_taken, MayAllocate, Rejects, rsa_only, rsa_private_key, private_decodes, viewed_encoding}
use Rattle.pkcs8_core.specs.Words.{Container, key_in, rsa_encryption, private_key_info, rsa_held, rsa_private_key_info, container_encoded, container_law, containers_decode, IsContainer, container_printed, ContainedKey}
use Rattle.der_core.specs.Tags as tags
use Rattle.pkcs1.specs.declared.view.RsaPrivateKeyView.{RsaPrivateKeyView}
use Rattle.pkcs1_params.specs.declared.error.Error.{Error}
use Rattle.standard.specs.Statement.{ContainedKeyEncoding, Container, ContainerEncoding, Decodes, PrivateKey, PrivateKeyEncoding, sequence, IsOaep, IsPss, OaepEncoding, PssEncoding, PublicKeyEncoding, algorithm, any, integer, integers, oaep_fields, optional, other_primes, pss_fields, tlv, version}

-- Faults of a key in a container are about the bytes.
pub key_tells : (c : Container) (octets : List ℕ) (k : ErrorKind) → key_in c octets ≡ Err k → TellsOfBytes k
key_tells c octets k e =
    ⊎_elim (rsa_only_tells c.algorithm k) (λ s. private_tells octets k s.2)
    (bind_err (rsa_only c.algorithm) _ e)

-- == Containers and RSA keys in them, in the words of the statement ==

-- Octets, as those of a container.
pub contained_decode : (c : Container) (octets : List ℕ) → AreBytes octets
    → Decodes (ContainedKey c) octets (value_in (key_in c octets))
contained_decode c octets are = go (rsa_only c.algorithm) refl
  where
    key : c.algorithm ≡ rsa_encryption → (o : Option PrivateKey) → Decodes PrivateKeyEncoding octets o
        → Decodes (ContainedKey c) octets o
    key same (Some k) (is, one) = ((same, is), λ other p. one other p.1)
    key same None never = λ k p. never k p.1

    go : (r : Result (Unit {0}) ErrorKind) → rsa_only c.algorithm ≡ r
        → Decodes (ContainedKey c) octets (value_in (r >>= λ _. rsa_private_key octets))
    go (Ok t) e =
        key (rsa_gives c.algorithm e) (value_in (rsa_private_key octets)) (private_decodes octets are)
    go (Err k) e = λ other p. let never = sym e ∙ rsa_taken c.algorithm p.0 in cc

-- The octets of a container whose algorithm is rsaEncryption.
pub rsa_held_read : (c : Container) (octets : List ℕ) → octets ≡ c.private_key → c.algorithm ≡ rsa_encryption
    → rsa_held c ≡ rsa_private_key octets
rsa_held_read c octets same agrees =
    ap (λ r. r >>= λ _. rsa_private_key c.private_key) (rsa_taken c.algorithm agrees) ∙ ap rsa_private_key (sym same)

-- The same of a call that may ask for memory.
pub rsa_held_asked : {X : Type 0} (value : X → PrivateKey) (c : Container) (octets : List ℕ)
    → octets ≡ c.private_key → c.algorithm ≡ rsa_encryption → (r : Result X Error)
    → AnswersAsn1OrAsks value (rsa_private_key octets) (MayAllocate octets) r
    → AnswersAsn1OrAsks value (rsa_held c) ((c.algorithm ≡ rsa_encryption) × MayAllocate c.private_key) r
rsa_held_asked value c octets same agrees (Ok x) p = rsa_held_read c octets same agrees ∙ p
rsa_held_asked value c octets same agrees (Err e) p =
    asn1_as
    (λ a f. ⊎_elim (λ w. inl (w.0, (agrees, subst MayAllocate same w.1)))
    (λ g. inr (rsa_held_read c octets same agrees ∙ g)) f) e p

-- What such a call decodes.
module _ {X : Type 0} (value : X → PrivateKey) (c : Container) (are : AreBytes c.private_key) (asked : Type 0) where
  -- by what the function gives
  rsa_held_decodes : (r : Result PrivateKey ErrorKind) → rsa_held c ≡ r
      → Decodes (ContainedKey c) c.private_key (value_in r)
  rsa_held_decodes r is =
      subst (λ r. Decodes (ContainedKey c) c.private_key (value_in r)) is (contained_decode c c.private_key are)

  pub rsa_held_ok : (r : Result X Error) → AnswersAsn1OrAsks value (rsa_held c) asked r
      → IfOk r (λ x. Decodes (ContainedKey c) c.private_key (Some (value x)))
  rsa_held_ok (Ok x) p = rsa_held_decodes (Ok (value x)) p
  rsa_held_ok (Err e) p = tt

  pub rsa_held_err : (r : Result X Error) → AnswersAsn1OrAsks value (rsa_held c) asked r
      → IfErr r (Rejects (ContainedKey c) c.private_key asked)
  rsa_held_err (Ok x) p = tt
  rsa_held_err (Err e) p =
      asn1_as (λ a. ⊎_elim (λ w. inl w)
      (λ f. inr (key_tells c c.private_key a.kind f, rsa_held_decodes (Err a.kind) f))) e p

-- An encoding is that of one container, and no beginning of another.
container_follow : (v w : Container) (bytes rest : List ℕ) → ContainerEncoding v bytes
    → ContainerEncoding w (bytes ++ rest) → (v ≡ w) × (rest ≡ [])
container_follow v w bytes rest p q =
    let a = (container_encoded v bytes).1 p in
    let b = (container_encoded w (bytes ++ rest)).1 q in
    printed_front_unique IsContainer (λ c. sequence (container_printed c))
    (prints_one (tagged_law container_law tags.sequence_tag)) v w a.1 b.1 bytes rest b.0 a.2 b.2

pub containers_delimited : AreDelimited ContainerEncoding
containers_delimited = (λ v p. cc, container_follow)

module _ (bytes : List ℕ) (are : AreBytes bytes) where
  -- A whole slice, as one of an RSA key.
  pub contained_keys_decode : Decodes ContainedKeyEncoding bytes (value_in (rsa_private_key_info bytes))
  contained_keys_decode = go (private_key_info bytes) (containers_decode bytes are)
    where
      key : (c : Container) → ContainerEncoding c bytes → ((d : Container) → ContainerEncoding d bytes → d ≡ c)
          → (o : Option PrivateKey) → Decodes (ContainedKey c) c.private_key o → Decodes ContainedKeyEncoding bytes o
      key c is only (Some k) (holds, one) = (
        (c, is, holds.0, holds.1),
        λ other p. one other (subst (λ d. ContainedKey d other d.private_key) (only p.0 p.1) (p.2, p.3)),
      )
      key c is only None never =
          λ k p. never k (subst (λ d. ContainedKey d k d.private_key) (only p.0 p.1) (p.2, p.3))

      go : (r : Result Container ErrorKind) → Decodes ContainerEncoding bytes (value_in r)
          → Decodes ContainedKeyEncoding bytes (value_in (r >>= rsa_held))
      go (Ok c) (is, only) = key c is only (value_in (rsa_held c)) (contained_decode c c.private_key is.2)
      go (Err k) never = λ other p. never p.0 p.1

-- A key whose encoding is that of the container.
pub viewed_in : (c : Container) (bytes octets : List ℕ) → ContainerEncoding c bytes → octets ≡ c.private_key
    → (r : Result RsaPrivateKeyView Error) → IfOk r (λ view. viewed_encoding view ≡ octets)
    → IfOk r (λ view. (d : Container) × ContainerEncoding d bytes × (viewed_encoding view ≡ d.private_key))
viewed_in c bytes octets is same (Ok view) e = (c, is, e ∙ same)
viewed_in c bytes octets is same (Err k) e = tt

-- == No bytes encode both a container and a key, or both a container and parameters ==
-- Behind the first INTEGER a container has a SEQUENCE, and a key a number. Parameters begin with the tag of a field.

-- Any octets behind a tag, and what follows them.
octets_of_all_law : ReadsPrinted (λ (o : List ℕ). Unit {0}) (λ o. o) octets_of_all
octets_of_all_law = record {
  gives = λ c o bytes e. (tt, ok_injective e);
  takes = λ o ok few. refl;
  tells = λ c k e. cc;
}

-- Of two encodings of a tag at one front, the contents are the same.
tlv_front_injective : (tag : Tag) (x y r s : List ℕ) → length (tlv tag.octet x ++ r) ≤ limit
    → tlv tag.octet x ++ r ≡ tlv tag.octet y ++ s → (x ≡ y) × (r ≡ s)
tlv_front_injective tag x y r s few same = prints_one (tagged_law octets_of_all_law tag) x y r s tt tt few same

-- The contents of what encodes a container.
container_contents_are : (c : Container) (bytes contents : List ℕ) → ContainerEncoding c bytes
    → bytes ≡ sequence contents
    → (container_printed c ≡ contents) × (length (container_printed c) ≤ limit)
container_contents_are c bytes contents p is =
    let (few, ok, same) = (container_encoded c bytes).1 p in
    let all = append-nil (sequence (container_printed c)) in
    let same_bytes = all ∙ sym same ∙ is ∙ sym (append-nil (sequence contents)) in (
      (tlv_front_injective tags.sequence_tag (container_printed c) contents [] []
          (omega (arith, ap length same, ap length all))
          same_bytes).0,
      omega (arith, ap length same, tlv_fit 48 (container_printed c)),
    )

-- Keys.
container_second_differs : (c : Container) (bytes : List ℕ) (n : ℕ) (rest : List ℕ) → ContainerEncoding c bytes
    → bytes ≡ sequence (integer n ++ rest) → slice_index rest 0 ≡ 2 → ⊥
container_second_differs c bytes n rest p is number =
    let behind = algorithm any c.algorithm ++ (tlv 4 c.private_key ++ optional (tlv 160) c.attributes) in
    let (same, few) = container_contents_are c bytes (integer n ++ rest) p is in
    let next : behind ≡ rest =
    (tlv_front_injective tags.integer_tag (number_contents 0) (number_contents n) behind rest few same).1 in
    let octets : 48 ≡ 2 = ap (λ b. slice_index b 0) next ∙ number in absurd (omega (arith, octets))

pub container_excludes_public_key : Excludes ContainerEncoding PublicKeyEncoding
container_excludes_public_key c key bytes p q =
    container_second_differs c bytes key.modulus (integers (key.public_exponent ∷ [])) p q.1 refl

pub container_excludes_private_key : Excludes ContainerEncoding PrivateKeyEncoding
container_excludes_private_key c key bytes p q =
    let first = integer (version key.other_primes) in
    let numbers = integers (key.modulus ∷ key.public_exponent ∷ key.private_exponent ∷ key.prime1 ∷ key.prime2
    ∷ key.exponent1 ∷ key.exponent2 ∷ key.coefficient ∷ []) in
    let others = optional other_primes key.other_primes in
    container_second_differs c bytes (version key.other_primes) (numbers ++ others) p
    (q.2 ∙ ap sequence (append_assoc first numbers others)) refl

-- Parameters.
pub container_excludes_pss : Excludes ContainerEncoding PssEncoding
container_excludes_pss c v bytes p q =
    record_differs IsPss pss_fields v 2 bytes _ (omega arith) (pss_fields_begin_high v) p.4 q

pub container_excludes_oaep : Excludes ContainerEncoding OaepEncoding
container_excludes_oaep c v bytes p q =
    record_differs IsOaep oaep_fields v 2 bytes _ (omega arith) (oaep_fields_begin_high v) p.4 q
