-- Containers: why one isn't read or written: one status at most. For `src/container.rt`.
use Rattle.std.proofs.Common.{ℕ, List, ◌≡◌, ◌∙◌, ap, arith, false, inl, inr, length, sym, ⊎_elim, Err, Ok, if◌then◌else◌, nat_lt}
use Rattle.der_core.specs.Words.{alone_law, tagged_law, bind_err, limit, TellsOfBytes, alone, tagged, whole, ◌>>=◌}
use Rattle.der_core.specs.Tags as tags
use Rattle.der_core.specs.declared.error.ErrorKind.{ErrorKind}
use Rattle.der_core.specs.declared.error.ErrorKind.TheVariants.{Overflow}
use Rattle.pkcs1.specs.Words.{number_front, private_key_read, rsa_private_key, integer_law, private_law, private_key_back, private_itself, private_spells, private_stated}
use Rattle.pkcs1_params.specs.Words.{whole_tells}
use Rattle.pkcs8_core.proofs.ContainedKeys.{key_tells}
use Rattle.pkcs8_core.specs.ContainerReadings as readings
use Rattle.pkcs8_core.specs.Words.{rsa_held, rsa_private_key_info, container_law}
use Rattle.standard.specs.Statement.{ContainerEncoding, PrivateKey, PrivateKeyEncoding}
use Rattle.pkcs1_c.specs.declared.container.PrivateKeyInfo.{PrivateKeyInfo}
use Rattle.pkcs1_c.specs.Words.{IsErrorNumber, InfoError, UnwrittenStatus, InfoHasKey, private_key_info_seen}
use Rattle.pkcs1_c.proofs.StructErrors.{HasOneStatus, unwritten_one}

-- Each fault of a container's RSA key is about the bytes.
pub contained_keys_tell : (bytes : List ℕ) (k : ErrorKind) → rsa_private_key_info bytes ≡ Err k → TellsOfBytes k
contained_keys_tell bytes k e =
    ⊎_elim (whole_tells (tagged_law container_law tags.sequence_tag) bytes k)
    (λ s. key_tells s.0 s.0.private_key k s.2) (bind_err (readings.private_key_info bytes) rsa_held e)

-- A whole slice that is the encoding of a key.
private_key_octets_read : (key : PrivateKey) (octets : List ℕ) → PrivateKeyEncoding key octets
    → rsa_private_key octets ≡ Ok key
private_key_octets_read key octets p =
    let (few, (s, is, ok, same)) = private_spells key octets p in
    let at = tagged tags.sequence_tag (private_key_read number_front) in
    let within : nat_lt limit (length octets) ≡ false = grind arith in
    let read : whole at octets ≡ Ok s =
    ap (λ b. if b then Err Overflow else alone at octets) within ∙ ap (alone at) same
    ∙ (alone_law (tagged_law (private_law integer_law) tags.sequence_tag)).takes s ok (omega (arith, ap length same)) in
    ap (λ r. r >>= λ v. Ok (private_stated v)) read ∙ ap (λ k. Ok (private_stated k)) (sym (private_itself s) ∙ is)
    ∙ ap (λ k. Ok k) (private_key_back key)

module _ (info : PrivateKeyInfo) where
  -- A key in it has no fault.
  pub error_none : (s : ℕ) → IsErrorNumber (rsa_private_key info.private_key.now) s → InfoHasKey info → ⊥
  error_none s (k, p, a) (key, holds) =
      let taken = private_key_octets_read key info.private_key.now holds in cc

  module _ (room : ℕ) where
    -- There is one status at most.
    pub info_one : HasOneStatus (InfoError info room)
    info_one s t (inl p) (inl q) = grind arith
    info_one s t (inl p) (inr q) = absurd (error_none s p q.0)
    info_one s t (inr p) (inl q) = absurd (error_none t q p.0)
    info_one s t (inr p) (inr q) = unwritten_one ContainerEncoding (private_key_info_seen info) room s t p.1 q.1

    -- Where a key is in it, the container isn't written for another reason.
    pub info_rest : InfoHasKey info → (s : ℕ) → InfoError info room s
        → UnwrittenStatus ContainerEncoding (private_key_info_seen info) room s
    info_rest holds s (inl p) = absurd (error_none s p holds)
    info_rest holds s (inr p) = p.1
