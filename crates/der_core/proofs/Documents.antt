-- Documents, read and made: for `from_der`, `read_from` and `encode_msg` of `src/document.rt`.
use Rattle.std.proofs.Common.{ℕ, List, ◌∷◌, ◌≡◌, ◌≤◌, length, take, ◌++◌, ◌∙◌, arith, refl, sym, subst, ap, ⊎_elim, Option, Err, [], map, Ok}
use Rattle.std.proofs.Math.Seq.{take-append_seam}
use Rattle.der_core.specs.Words.{AreBytes, Tlv, tlv, length_octets, limit, WithinLimit, IsDocument, GivesNone, Prints, read_document, GivesAll, NoValueOrMemory, AllocatesAtFront, TellsOfBytes, ErrorKind, length_octets-only, tlv_made, back_bytes, header_at, length_at, null_tag, sequence_tag}
use Rattle.der_core.specs.declared.error.ErrorKind.TheVariants.{Incomplete, TagUnexpected, TrailingData}

-- A document is one SEQUENCE of octets, as it is printed.
abbrev pub DocumentPrints : Unit {0} → List ℕ → Type 0
DocumentPrints = Prints AreBytes (λ o. tlv 48 o) (λ (_ : List ℕ). let v : Unit {0} = tt in v)

-- What `IsDocument` says, and what is printed within the limit, are the same.
document_means : (b : List ℕ) → IsDocument b → (v : Unit {0}) → WithinLimit DocumentPrints v b
document_means b (few, p) v = (
  few,
  (
    p.contents,
    refl,
    p.holds,
    p.written
        ∙ ap (λ x. 48 ∷ x ++ p.contents) (length_octets-only (length p.contents) p.octets p.counted),
  ),
)

pub means_document : (b : List ℕ) (v : Unit {0}) → WithinLimit DocumentPrints v b → IsDocument b
means_document b v (few, (o, e, bytes, is)) =
    (few, subst (Tlv 48 AreBytes) (sym is) (tlv_made 48 o bytes (omega (arith, ap length is))))

-- Reading a SEQUENCE asks for no memory, so an error says that the bytes are no document.
pub no_document : (e : ErrorKind) (b : List ℕ)
    → NoValueOrMemory e (AllocatesAtFront (Tlv 48 (λ _. ⊥)) b) ((v : Unit {0}) → WithinLimit DocumentPrints v b → ⊥)
    → TellsOfBytes e × (IsDocument b → ⊥)
no_document e b r = ⊎_elim (λ w. absurd w.1.3.holds) (λ w. (w.0, λ p. w.1 tt (document_means b p tt))) r

-- What came is no document.
pub none_given : (e : ErrorKind) (old new : Option (List ℕ)) (given seen : List ℕ) → seen ≡ given
    → GivesAll old new given → (IsDocument seen → ⊥) → read_document seen ≡ Err e → GivesNone e old new
none_given e old new given seen same gives empty fault = (given, gives, (λ d. empty (rw same d)), rw same at fault)

-- An encoding with the tag of a SEQUENCE is a document.
pub written_document : (tag : ℕ) (contents : List ℕ) → tag ≡ 48 → AreBytes (tlv tag contents)
    → length (tlv tag contents) ≤ limit → IsDocument (tlv tag contents)
written_document tag contents is bytes fits = (
  fits,
  subst (λ t. Tlv t AreBytes (tlv tag contents)) is
      (tlv_made tag contents (back_bytes (tag ∷ length_octets (length contents)) contents bytes) fits),
)

-- What is left of a region that was written over.
pub front_written_over : (n : ℕ) (new rest encoding : List ℕ) → new ≡ encoding → n ≡ length encoding
    → take n (new ++ rest) ≡ encoding
front_written_over n new rest encoding e l = rw (e, l) (take-append_seam encoding rest)

-- Worked rows: 3000 and 30020500 are documents.
document_rows_read : map read_document ((0x30 ∷ 0x00 ∷ []) ∷ (0x30 ∷ 0x02 ∷ 0x05 ∷ 0x00 ∷ []) ∷ []) ≡ Ok tt ∷ Ok tt ∷ []
unfolding header_at length_at
document_rows_read = refl

-- 0500, 300000 and no bytes are none, each with the kind of its fault.
abbrev document_faults : List (List ℕ × ErrorKind)
document_faults =
    (0x05 ∷ 0x00 ∷ [], TagUnexpected sequence_tag null_tag)
    ∷ (0x30 ∷ 0x00 ∷ 0x00 ∷ [], TrailingData)
    ∷ ([], Incomplete)
    ∷ []

document_faults_read : map (λ row. read_document row.0) document_faults ≡ map (λ row. Err row.1) document_faults
unfolding header_at length_at
document_faults_read = refl
