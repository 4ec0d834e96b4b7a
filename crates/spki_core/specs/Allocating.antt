-- Where reading algorithm identifiers and fields may ask for memory.
use Rattle.std.specs.Prelude.{ℕ, List, ◌≡◌}
use Rattle.der_core.specs.Words.{Prints, context_octet, object_identifier_octet, sequence_octet, Tlv, tlv, AllocatesAtFront, AllocatesBehind, AllocatesLast}
use Rattle.spki_core.specs.Identifiers.{IsIdentifier}

-- In the contents of an algorithm identifier: its parameters may ask for memory, the object identifier never does.
abbrev pub AllocatesForParameters : (List ℕ → Type 0) → List ℕ → Type 0
AllocatesForParameters may_allocate contents =
    AllocatesBehind (Prints IsIdentifier (λ oid. tlv object_identifier_octet oid) (λ oid. oid))
    (AllocatesLast may_allocate) contents

-- The same for the whole encoding.
abbrev pub AlgorithmAllocates : (List ℕ → Type 0) → List ℕ → Type 0
AlgorithmAllocates may_allocate encoding = Tlv sequence_octet (AllocatesForParameters may_allocate) encoding

-- The encoding of an identifier without parameters doesn't ask for memory.
abbrev pub NothingAskedAlone : (List ℕ → Type 0) → Type 0
NothingAskedAlone may_allocate =
    (oid encoding : List ℕ) → IsIdentifier oid → encoding ≡ tlv sequence_octet (tlv object_identifier_octet oid)
    → AllocatesAtFront may_allocate encoding → ⊥

-- The value inside the tag [number] may ask for memory.
abbrev pub FieldAllocates : ℕ → (List ℕ → Type 0) → List ℕ → Type 0
FieldAllocates number may_allocate encoding = Tlv (context_octet number) (AllocatesAtFront may_allocate) encoding
