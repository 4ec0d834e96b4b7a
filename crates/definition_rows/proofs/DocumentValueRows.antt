-- Worked rows of `DocumentValue.antt` of `der_core`: which document of a value is made.
use Rattle.std.proofs.Common.{ℕ, List, ◌≡◌, ◌≤◌, ◌⊎◌, length, refl, Ok, Err}
use Rattle.std.specs.Prelude.{◌↔◌}
use Rattle.der_core.specs.Document.{WhyNotCounted}
use Rattle.der_core.specs.DocumentValue.{HoldsMessage, encoding_of}
use Rattle.der_core.specs.Writing.{WhyOctetsNotCounted, encode_error}
use Rattle.der_core.specs.declared.document.DocumentOf.{DocumentOf}
use Rattle.der_core.specs.declared.error.Error.{Error}
use Rattle.der_core.specs.declared.error.ErrorKind.TheVariants.{OutOfMemory}
use Rattle.standard.specs.Statement.{IsShortest}

document_bytes : (document : DocumentOf ℕ) → encoding_of document ≡ document.bytes.items
document_bytes document = refl

module _ {V : Type 0} (encoding : List ℕ → List ℕ) (has : Type 0) (octets : List ℕ) (Grammar : V → List ℕ → Type 0)
    (v : V) where
  message_held : (document : List ℕ) → HoldsMessage encoding (Ok document) has octets Grammar v
      ↔ (has × (encoding document ≡ octets)
      × IsShortest (λ w b. (length b ≤ 4294967295) × Grammar w b) v (encoding document))
  message_held document = (λ p. p, λ p. p)

  message_not_made : (e : Error) → HoldsMessage encoding (Err e) has octets Grammar v
      ↔ (((e.kind ≡ OutOfMemory) × has × (length octets ≤ 4294967295))
      ⊎ (WhyOctetsNotCounted has octets (encode_error e.kind) × WhyNotCounted has Grammar v (encode_error e.kind)))
  message_not_made e = (λ p. p, λ p. p)
