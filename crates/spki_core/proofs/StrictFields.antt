-- Strict reading of fields with defaults: what is read is the shortest encoding. For strict reading of parameters.
use Rattle.std.proofs.Common.{ℕ, List, [], ◌∷◌, ◌≡◌, ◌≤◌, length, refl, sym, ap, ◌∙◌, arith, true, Option, Some, None, Result, Ok, Err, inl, inr, ◌↔◌, pow_pos}
use Rattle.std.proofs.lemmas.Bool.{cases_Bool}
use Rattle.der_core.specs.Words.{AreBytes, back_bytes, whole_decodes, limit, value_in, tagged, whole, ◌>>=◌, checked_as, same_tag, context_octet, is_allowed}
use Rattle.der_core.specs.declared.error.ErrorKind.{ErrorKind}
use Rattle.der_core.specs.declared.error.ErrorKind.TheVariants.{Noncanonical, TagUnknown}
use Rattle.der_core.specs.declared.tag.Tag.{Tag}
use Rattle.der_core.specs.Tags as tags
use Rattle.spki_core.specs.Words.{AreLawful, AreSpelled, FieldRecord, Kind, Spelling, Values, first_written, spelling_means, record_means, record_under, spelling_printed, spelling_read, strict_whole, spelling_under, number_of_defaults, spelling_masked, under_mask, record_front_law, spelled_from, spelled_to, noncanonical, unless_found}
use Rattle.spki_core.specs.FieldSpellings.{mask_of}
use Rattle.spki_core.proofs.RecordEncodings.{encoding_under, encoding_under_zero_shortest, under_is_one, valid_under, zero_least}
use Rattle.standard.specs.Statement.{Decodes, Field, Fields, IsShortest, SequenceOf, sequence, tlv}

-- The error for a number is the one that names its tag.
pub noncanonical_is : (n : ℕ) (tag : Tag) → tag.octet ≡ context_octet n → noncanonical n ≡ Noncanonical tag
noncanonical_is n tag is =
    let ok : is_allowed (context_octet n) ≡ true = ap is_allowed (sym is) ∙ tag.allowed in
    let r =
    checked_as (is_allowed (context_octet n)) (λ ok. Noncanonical (record { octet = context_octet n; allowed = ok }))
    (TagUnknown (context_octet n)) ok in
    r.1 ∙ ap Noncanonical (same_tag (record { octet = context_octet n; allowed = r.0 }) tag (sym is))

-- No default is there in the spelling under mask 0 alone.
first_written_none : (ks : List Kind) (s : Spelling ks) → (first_written ks s ≡ None) ↔ (mask_of ks s ≡ 0)
first_written_none [] s = (λ e. refl, λ e. refl)
first_written_none (k ∷ ks) (None, s) =
    let later = first_written_none ks s in (λ e. omega arith, λ e. later.1 (omega arith))
first_written_none (k ∷ ks) (Some x, s) = elim (cases_Bool (k.is_default x)) [
  | inl is ↦ rw is (λ e. cc, λ e. absurd (omega arith))
  | inr isnt ↦ rw isnt (first_written_none ks s)
]

-- None is there under mask 0.
first_written_under_zero : (ks : List Kind) → AreLawful 0 ks → (v : Values ks)
    → first_written ks (spelling_under ks 0 v) ≡ None
first_written_under_zero ks law v =
    (first_written_none ks (spelling_under ks 0 v)).1 (under_mask ks 0 law 0 v (pow_pos (number_of_defaults ks v)))

-- And that spelling is the only one.
first_written_none_only : (ks : List Kind) → AreLawful 0 ks → (s : Spelling ks) → first_written ks s ≡ None
    → s ≡ spelling_under ks 0 (spelling_means ks s)
first_written_none_only ks law s none = sym (rw ((first_written_none ks s).0 none) at (spelling_masked ks 0 law s).1)

-- The contents of an encoding are octets.
pub contents_bytes : (tag : ℕ) (c : List ℕ) → AreBytes (tlv tag c) → AreBytes c
contents_bytes tag c bytes = back_bytes _ c bytes.1

module _ {V : Type 0} {Is : V → Type 0} {fields : V → List Field} (r : FieldRecord Is fields) where
  abbrev RecordEncoding : V → List ℕ → Type 0
  RecordEncoding = SequenceOf Is fields Fields

  -- a valid spelling is printed, within the limit
  abbrev Stands : Spelling r.kinds → List ℕ → Type 0
  Stands s b = (length b ≤ limit) × AreSpelled r.kinds s × (b ≡ sequence (spelling_printed r.kinds s))

  -- What strict reading is promised to give.
  pub strict_decodes : (bytes : List ℕ) → AreBytes bytes
      → Decodes (IsShortest RecordEncoding) bytes (value_in (strict_whole r bytes))
  strict_decodes bytes are =
      go (whole (tagged tags.sequence_tag (spelling_read r.kinds)) bytes) (whole_decodes (record_front_law r) bytes are)
    where
      chosen : (s : Spelling r.kinds) → Decodes Stands bytes (Some s) → (found : Option ℕ)
          → first_written r.kinds s ≡ found
          → Decodes (IsShortest RecordEncoding) bytes (value_in (unless_found found (record_means r s)))
      chosen s p None none =
          let v = record_means r s in
          let holds = spelled_to r v bytes (p.0.0, (s, refl, p.0.1, p.0.2)) in
          let first : s ≡ record_under r 0 v =
          first_written_none_only r.kinds r.lawful s none
          ∙ ap (spelling_under r.kinds 0) (sym (r.parted (spelling_means r.kinds s))) in
          let same : bytes ≡ encoding_under r v 0 = p.0.2 ∙ ap (λ z. sequence (spelling_printed r.kinds z)) first in (
            rw same (encoding_under_zero_shortest r v holds.0 (rw same at p.0.0)),
            λ other q.
                let (few, (t, e, ok, is)) = spelled_from r other bytes q.0 in
                sym e ∙ ap (record_means r) (p.1 t (few, ok, is)),
          )
      chosen s p (Some n) found = λ v q.
          let (under, least) = zero_least r v bytes q.0 in
          let is : bytes ≡ encoding_under r v
          0 = elim (q.1 (encoding_under r v 0) (under_is_one r v 0 (encoding_under r v 0) under)) [
            | inl e ↦ sym e
            | inr longer ↦ absurd (omega arith)
          ] in
          let same : record_under r 0 v ≡ s = p.1 (record_under r 0 v) (q.0.1, valid_under r v 0 q.0.0, is) in
          let none : first_written r.kinds s ≡ None =
          ap (first_written r.kinds) (sym same) ∙ first_written_under_zero r.kinds r.lawful (r.split v) in
          cc

      go : (o : Result (Spelling r.kinds) ErrorKind) → Decodes Stands bytes (value_in o)
          → Decodes (IsShortest RecordEncoding) bytes
          (value_in (o >>= λ s. unless_found (first_written r.kinds s) (record_means r s)))
      go (Ok s) p = chosen s p (first_written r.kinds s) refl
      go (Err k) p = λ v q. p _ (let h = spelled_from r v bytes q.0 in (h.0, h.1.2, h.1.3))
