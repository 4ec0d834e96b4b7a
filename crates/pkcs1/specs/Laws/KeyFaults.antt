-- Faults of keys, and encodings that none is a beginning of.
use Rattle.std.proofs.Common.{◌≡◌, ℕ, List, [], ap, ◌∙◌, ◌++◌, ◌≤◌, length, sym, arith, append-nil}
use Rattle.der_core.specs.Words.{tagged_law, made_tells, whole, limit, PrintsOne}
use Rattle.pkcs1.specs.KeyReadings.{number_front, whole_private_key, public_read, rsa_private_key, rsa_public_key}
use Rattle.pkcs1.specs.Laws.PrintedKeys.{integer_law, public_law}
use Rattle.pkcs1.specs.Laws.PrintedPrivateKeys.{private_law}
use Rattle.pkcs1.specs.StatedKeys.{private_stated, public_stated}
use Rattle.der_core.specs.Tags as tags
use Rattle.pkcs1_params.specs.Words.{FaultsTell, whole_tells}

-- The faults of keys are about the bytes.
pub public_tells : FaultsTell rsa_public_key
public_tells bytes k e =
    made_tells public_stated (whole public_read bytes) (whole_tells public_law bytes k) e

pub private_tells : FaultsTell rsa_private_key
private_tells bytes k e =
    made_tells private_stated (whole_private_key number_front bytes)
    (whole_tells (tagged_law (private_law integer_law) tags.sequence_tag) bytes k) e

-- A whole encoding is that of one spelling, and no beginning of another.
pub printed_front_unique : {S : Type 0} (valid : S → Type 0) (printed : S → List ℕ) → PrintsOne valid printed
    → (s t : S)
    → valid s → valid t → (bytes rest : List ℕ) → length (bytes ++ rest) ≤ limit → bytes ≡ printed s
    → bytes ++ rest ≡ printed t → (s ≡ t) × (rest ≡ [])
printed_front_unique valid printed one s t p q bytes rest few is same =
    let whole : printed s ++ rest ≡ printed t ++ [] =
    ap (λ b. b ++ rest) (sym is) ∙ same ∙ sym (append-nil (printed t)) in
    one s t rest [] p q (omega (arith, ap (λ b. length (b ++ rest)) is)) whole
