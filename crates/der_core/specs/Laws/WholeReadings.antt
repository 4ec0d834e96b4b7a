-- What functions read that read whole slices, documents too.
use Rattle.std.proofs.Common.{ℕ, false, List, ◌≡◌, ◌≤◌, length, arith, ⊎_elim, nat_lt, refl, ◌∙◌}
use Rattle.der_core.specs.Document.{WithinLimit}
use Rattle.der_core.specs.Encodings.{InFront, AreBytes}
use Rattle.der_core.specs.Laws.LengthReading.{cond_cases}
use Rattle.der_core.specs.Laws.Readings.{alone_reads, any_contents_reads}
use Rattle.der_core.specs.Laws.TaggedReadings.{tagged_reads}
use Rattle.der_core.specs.Length.{limit}
use Rattle.der_core.specs.Readings.{FrontReading, Reading, limited, whole, ReadsContents, ReadsFronts, read_document}
use Rattle.der_core.specs.Tags.{sequence_tag}
use Rattle.der_core.specs.Tlv.{Tlv}

-- A slice within the limit.
pub limited_is : {V : Type 0} (read : Reading V) (b : List ℕ) → length b ≤ limit → limited read b ≡ read b
limited_is read b few = let no : nat_lt limit (length b) ≡ false = grind arith in rw no refl

pub limited_reads : {V : Type 0} {contents : V → List ℕ → Type 0} {read : Reading V} → ReadsContents contents read
    → ReadsContents (WithinLimit contents) (limited read)
limited_reads {read = read} law = record {
  gives = λ b v bytes e. ⊎_elim (λ w. let no = w.1 in cc)
      (λ w. let within : length b ≤ limit = grind arith in (within, law.gives b v bytes w.1))
      (cond_cases (nat_lt limit (length b)) _ _ _ e);
  takes = λ b v w m. limited_is read b m.0 ∙ law.takes b v w m.1;
  tells = λ b k e. ⊎_elim (λ w. (λ no. cc, λ no. cc, λ no. cc))
      (λ w. law.tells b k w.1) (cond_cases (nat_lt limit (length b)) _ _ _ e);
}

-- A whole one, and one that begins with an encoding.
module _ {V : Type 0} {encoding : V → List ℕ → Type 0} {at : FrontReading V} (law : ReadsFronts encoding at) where
  pub whole_reads : ReadsContents (WithinLimit encoding) (whole at)
  whole_reads = limited_reads (alone_reads law)

  pub front_reads : ReadsContents (WithinLimit (InFront encoding)) (limited at)
  front_reads = limited_reads (record {
    gives = λ b split bytes e. law.gives b split.1 split.0 bytes e;
    takes = λ b split w m. law.takes b m.0 split.1 split.0 w m.1 m.2;
    tells = law.tells;
  })

-- One whole SEQUENCE.
pub document_reads : ReadsContents (WithinLimit (λ (_ : Unit {0}). Tlv sequence_tag.octet AreBytes))
    read_document
document_reads = whole_reads (tagged_reads sequence_tag any_contents_reads)
