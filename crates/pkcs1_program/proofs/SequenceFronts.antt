-- Bytes that are a SEQUENCE, or too few for one: for `src/sequence.rt`.
use Rattle.std.proofs.Common.{ℕ, List, [], ◌≡◌, ◌⊎◌, ◌∙◌, refl, ap, inl, inr, Err}
use Rattle.der_core.specs.declared.error.ErrorKind.{ErrorKind}
use Rattle.der_core.specs.Words.{FaultOrMemory, IsDocument, header_at, read_document, document_reads}
use Rattle.der_core.specs.declared.error.ErrorKind.TheVariants.{Incomplete, OutOfMemory}
use Rattle.pkcs1_program.specs.Words.{IsSequenceFront}

pub no_bytes_are_front : IsSequenceFront []
unfolding header_at
no_bytes_are_front = inr refl

-- What is no document, but only for want of bytes or of memory.
pub unrefused_is_front : (bytes : List ℕ) (k : ErrorKind) → (k ≡ Incomplete) ⊎ (k ≡ OutOfMemory)
    → FaultOrMemory k (IsDocument bytes) (read_document bytes ≡ Err k) → IsSequenceFront bytes
unrefused_is_front bytes k why (inl (out, is)) = inl (document_reads.takes bytes tt is.0 is)
unrefused_is_front bytes k (inl short) (inr fault) = inr (fault ∙ ap (λ k. Err k) short)
unrefused_is_front bytes k (inr out) (inr fault) =
    absurd ((document_reads.tells bytes OutOfMemory (fault ∙ ap (λ k. Err k) out)).0 refl)
