-- SEQUENCEs that differ by their contents: of fields, which have tags from 160 on, and of what begins with a lower tag.
use Rattle.std.proofs.Common.{ℕ, List, [], ◌++◌, ◌≡◌, ◌<◌, ◌≤◌, length, refl, sym, subst, ap, ◌∙◌, arith, inl, inr, ◌∷◌, slice_index}
use Rattle.der_core.specs.Words.{tlv_made, tlv_split, limit}
use Rattle.standard.specs.Statement.{Field, Fields, SequenceOf, sequence, OaepParameters, PssParameters, oaep_fields, pss_fields}

-- A SEQUENCE is no proper beginning of another, and the same one has the same contents.
pub front_contents : (c d x y : List ℕ) → length (sequence c) ≤ limit → length (sequence d) ≤ limit
    → sequence c ++ x ≡ sequence d ++ y → (c ≡ d) × (x ≡ y)
front_contents c d x y few less is =
    let s =
    tlv_split (sequence c) x (sequence d) y (tlv_made {P = λ z. c ≡ z} 48 c refl few) (tlv_made {P = λ z. z ≡ d} 48 d refl less)
    is in
    (s.4 ∙ s.5, s.2)

pub same_contents : (c d : List ℕ) → length (sequence c) ≤ limit → sequence c ≡ sequence d → c ≡ d
same_contents c d few is =
    (front_contents c d [] [] few (omega (arith, ap length is)) (ap (λ x. x ++ []) is)).0

-- The fields of parameters have tags from 160 on.
abbrev pub FieldsBeginHigh : List Field → Type 0
FieldsBeginHigh [] = Unit {0}
FieldsBeginHigh (f ∷ fields) = (160 ≤ slice_index f.written 0) × FieldsBeginHigh fields

pub fields_begin_high : (fields : List Field) (tag : ℕ) (rest : List ℕ) → tag < 160 → FieldsBeginHigh fields
    → Fields fields (tag ∷ rest) → ⊥
fields_begin_high [] tag rest low ok e = cc
fields_begin_high (f ∷ fields) tag rest low ok (inl p) = fields_begin_high fields tag rest low ok.1 p.1
fields_begin_high (f ∷ fields) tag rest low ok (inr (later, is, more)) = go f.written ok.0 is
  where
    go : (w : List ℕ) → 160 ≤ slice_index w 0 → tag ∷ rest ≡ w ++ later → ⊥
    go [] high e = omega arith
    go (x ∷ xs) high e = let same : tag ≡ x = ap (λ b. slice_index b 0) e in omega arith

pub pss_fields_begin_high : (v : PssParameters) → FieldsBeginHigh (pss_fields v)
pss_fields_begin_high v = (omega arith, (omega arith, (omega arith, (omega arith, tt))))

pub oaep_fields_begin_high : (v : OaepParameters) → FieldsBeginHigh (oaep_fields v)
oaep_fields_begin_high v = (omega arith, (omega arith, (omega arith, tt)))

-- A SEQUENCE that begins with a lower tag, of such fields.
pub record_differs : {V : Type 0} (Is : V → Type 0) (fields : V → List Field) (v : V) (tag : ℕ) (bytes rest : List ℕ)
    → tag < 160 → FieldsBeginHigh (fields v) → bytes ≡ sequence (tag ∷ rest) → SequenceOf Is fields Fields v bytes → ⊥
record_differs Is fields v tag bytes rest low ok is (valid, few, c, holds, same) =
    fields_begin_high (fields v) tag rest low ok
    (subst (Fields (fields v))
    (same_contents c (tag ∷ rest) (omega (arith, ap length same)) (sym same ∙ is)) holds)
