-- Parameters with a label: their encodings, by the length of the label. For `src/label.rt`.
use Rattle.std.proofs.Common.{ℕ, List, [], ◌∷◌, ◌++◌, ◌≡◌, ◌<◌, ◌≤◌, length, true, false, subst, sym, ap, ◌∙◌, arith, append-nil, append_assoc, length-append, ◌+◌, Bool, Result, Ok, Err, refl, IfOk, IfErr, if◌then◌else◌, is_ok}
use Rattle.std.specs.Prelude.{⊤}
use Rattle.der_core.specs.Words.{AreBytes, limit, Counts}
use Rattle.der_core.specs.declared.error.Error.{Error}
use Rattle.der_core.specs.declared.error.ErrorKind.TheVariants as kind
use Rattle.spki_core.specs.Words.{WrittenField, field_with, octets_under, out_under, record_under, rest_under, spelling_printed}
use Rattle.spki_core.proofs.RecordEncodings.{encoding_under, encoding_under_zero_shortest, zero_least}
use Rattle.pkcs1_params.specs.Words.{CountsLabelled, source_with, written_labelled, written_source, mgf1_identifier, oaep_record, source_identifier, LabelFits, NoLabelFits, labelled, hash_kind, mask_kind, oaep_kinds, source_kind, id_p_specified}
use Rattle.pkcs1_params.proofs.Masks.{counts_as, octets_under_spelled, uncounted_overflows}
use Rattle.standard.specs.Statement.{IsIdentifier, IsOaep, OaepParameters, sequence, tlv}

-- The source of a label that isn't empty is written.
pub source_written : (label : List ℕ) → 0 < length label
    → written_source label ≡ tlv 162 (tlv 48 (tlv 6 id_p_specified ++ tlv 4 label))
source_written [] e = absurd (omega arith)
source_written (x ∷ xs) e = refl

-- Parameters with a label may be encoded.
pub labelled_is : (oid label : List ℕ) → IsIdentifier oid → AreBytes label → IsOaep (labelled oid label)
labelled_is oid label h bytes =
    ((h, (refl, tt)), (mgf1_identifier, (h, (refl, tt))), (source_identifier, (refl, bytes)))

-- What is written before the source.
abbrev pub written_before : List ℕ → List ℕ
written_before oid =
    let p = labelled oid [] in octets_under 0 (field_with hash_kind p.hash ∷ field_with mask_kind p.mask_gen ∷ [])

-- One more field at the end, under mask 0.
octets_last : (fs : List WrittenField) (f : WrittenField)
    → octets_under 0 (fs ++ f ∷ []) ≡ octets_under 0 fs ++ (if f.is_default then [] else f.octets)
octets_last [] f = last f.is_default
  where
    last : (b : Bool) → (if out_under b 0 then [] else f.octets) ++ [] ≡ (if b then [] else f.octets)
    last true = refl
    last false = append-nil f.octets
octets_last (g ∷ fs) f = go g.is_default (octets_last fs f)
  where
    go : (b : Bool) → octets_under 0 (fs ++ f ∷ []) ≡ octets_under 0 fs ++ (if f.is_default then [] else f.octets)
        → (if out_under b 0 then [] else g.octets) ++ octets_under (rest_under b 0) (fs ++ f ∷ [])
        ≡ ((if out_under b 0 then [] else g.octets) ++ octets_under (rest_under b 0) fs)
        ++ (if f.is_default then [] else f.octets)
    go true later = later
    go false later =
        ap (λ z. g.octets ++ z) later
        ∙ sym (append_assoc g.octets (octets_under 0 fs) (if f.is_default then [] else f.octets))

-- The source comes last.
pub labelled_written : (oid label : List ℕ) → written_labelled oid label ≡ written_before oid ++ written_source label
labelled_written oid label =
    let p = labelled oid [] in
    octets_last (field_with hash_kind p.hash ∷ field_with mask_kind p.mask_gen ∷ [])
    (field_with source_kind (source_with label))

-- As what is written under mask 0.
labelled_encoding_is : (oid label : List ℕ)
    → encoding_under oaep_record (labelled oid label) 0 ≡ sequence (written_labelled oid label)
labelled_encoding_is oid label = ap sequence (sym (octets_under_spelled oaep_record (labelled oid label) 0 _ refl))

-- What is counted of a label.
pub label_counted : (label : List ℕ) (n : ℕ) (r : Result ℕ Error) → length label ≡ n
    → IfOk r (λ m. (m ≡ n) × (n ≤ limit)) → IfErr r (λ e. (e.kind ≡ kind.Overflow) × (limit < n)) → Counts ⊤ label r
label_counted label n (Ok m) e ok err = (tt, omega arith, omega arith)
label_counted label n (Err x) e ok err = rw err.0 (tt, omega arith)

-- Octets that aren't counted are too many, and so are more.
pub longer_uncounted : (a b : List ℕ) (e : Error) → length a ≤ length b → Counts ⊤ a (Err e) → Counts ⊤ b (Err e)
longer_uncounted a b e more h =
    let many = uncounted_overflows a e.kind tt h in rw many.0 (tt, omega (arith, many.1, more))

-- Two parts are counted by their sum.
pub sum_counted : (a b : List ℕ) (m n : ℕ) (r : Result ℕ Error) → m ≡ length a → n ≡ length b
    → IfOk r (λ s. (s ≡ m + n) × (s ≤ limit)) → IfErr r (λ e. (e.kind ≡ kind.Overflow) × (limit < m + n))
    → Counts ⊤ (a ++ b) r
sum_counted a b m n (Ok s) p q ok err = (tt, omega (arith, p, q, ok.0, length-append a b), ok.1)
sum_counted a b m n (Err e) p q ok err = rw err.0 (tt, omega (arith, p, q, err.1, length-append a b))

-- Those without a label are counted, and then the source.
pub labelled_counted : {Has : Type 0} (oid label : List ℕ) (v : OaepParameters) (contents : Result ℕ Error)
    → Has → v ≡ labelled oid []
    → Counts Has (spelling_printed oaep_kinds (record_under oaep_record 0 v)) contents
    → Counts ⊤ (written_before oid) contents
labelled_counted {Has} oid label v contents has same c =
    let before : spelling_printed oaep_kinds (record_under oaep_record 0 v) ≡ written_before oid =
    ap (λ u. spelling_printed oaep_kinds (record_under oaep_record 0 u)) same
    ∙ sym (octets_under_spelled oaep_record (labelled oid []) 0 _ refl)
    ∙ labelled_written oid [] ∙ append-nil (written_before oid) in
    counts_as (written_before oid) contents (λ _. tt) (λ _. has) (subst (λ z. Counts Has z contents) before c)

-- Where the encoding is counted, one fits, and else none does.
pub label_fits_where_counted : (oid : List ℕ) (n : ℕ) (r : Result ℕ Error) → is_ok r ≡ true
    → ((label : List ℕ) → AreBytes label → length label ≡ n → CountsLabelled oid label r) → LabelFits oid n
label_fits_where_counted oid n (Ok m) ok all label bytes e =
    let p = labelled oid label in
    let c = all label bytes e in
    let few : length (encoding_under oaep_record p 0) ≤ limit = omega
    (arith, c.1, c.2, ap length (labelled_encoding_is oid label)) in
    (encoding_under oaep_record p 0, (encoding_under_zero_shortest oaep_record p c.0 few).0)
label_fits_where_counted oid n (Err x) ok all label bytes e = cc

pub no_label_fits_where_uncounted : (oid : List ℕ) (n : ℕ) (r : Result ℕ Error) → is_ok r ≡ false
    → ((label : List ℕ) → AreBytes label → length label ≡ n → CountsLabelled oid label r) → NoLabelFits oid n
no_label_fits_where_uncounted oid n (Ok m) ok all label bytes e encoding means = cc
no_label_fits_where_uncounted oid n (Err x) ok all label bytes e encoding means =
    let least = (zero_least oaep_record (labelled oid label) encoding means).1 in
    let long = uncounted_overflows (sequence (written_labelled oid label)) x.kind means.0 (all label bytes e) in
    omega (arith, ap length (labelled_encoding_is oid label))
