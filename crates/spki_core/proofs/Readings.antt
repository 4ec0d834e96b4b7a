-- What the functions that read give: records by their fields, encodings of any tag, fields. Identifiers that are
-- mapped. For reading and copies of parameters, `decode_as` and `AnyRef`.
use Rattle.std.proofs.Common.{arith, slice_get, slice_index_or, ◌==◌, ◌≡◌, ◌≤◌, ◌∙◌, ◌&&◌, length, ℕ, Bool, List, [], ◌∷◌, Option, Some, None, Ok, true, false, ap, refl, sym, ◌+◌, Result, if◌then◌else◌, option_map, subst, Err, IfOk, inl, inr}
use Rattle.std.proofs.lemmas.Bool.{cases_Bool}
use Rattle.der_core.specs.Words.{ok_pair, alone, by_tag, contents_behind, front_of, header_at, inside, is_allowed, is_next, length_at, octets_of_all, tagged, ◌>>=◌, AllocatesAtFront, AreBytes, FaultOrMemory, Input, ReadsFront, Returns, Tlv, limit, limited, FrontReading, Reading, ReadsContents, context_octet, limited_is}
use Rattle.der_core.specs.Input.{with_tag}
use Rattle.der_core.specs.declared.error.ErrorKind.TheVariants.{Incomplete, TagUnknown}
use Rattle.spki_core.specs.Words.{Kind, Spelling, any_front, or_default, spelling_read, tag_of, explicit_is, defaulted, explicit, algorithm_map, algorithm_with, IsMapped, TagAndContents}
use Rattle.der_core.specs.declared.error.ErrorKind.{ErrorKind}
use Rattle.der_core.specs.declared.tag.Tag.{Tag}
use Rattle.der_core.specs.declared.error.Error.{Error}

-- Whether the field is there though it has its default.
abbrev pub default_is_there : (k : Kind) → Option k.Value → Bool
default_is_there k None = false
default_is_there k (Some v) = k.is_default v

-- A value that was read, if the octet of its field's tag is next.
abbrev pub value_if_next : (k : Kind) → k.Value → List ℕ → Option k.Value
value_if_next k v c = if is_next (160 + k.number) c then Some v else None

-- One field and those behind it, with the number and the default of the first as the code has them.
module _ (k : Kind) (ks : List Kind) {given v : k.Value} {n : ℕ} (same : given ≡ k.default) (is : n ≡ k.number)
    (c rest : List ℕ) (read : defaulted n k.at given c ≡ Ok (v, rest)) where
  -- It is read as a field of its kind.
  field_known : defaulted k.number k.at k.default c ≡ Ok (v, rest)
  field_known = rw (is, same) at read

  -- With those behind it, it is a spelling.
  pub field_spelled : (s : Spelling ks) → spelling_read ks rest ≡ Ok s → spelling_read (k ∷ ks) c
      ≡ Ok (value_if_next k v c, s)
  field_spelled s behind = elim (cases_Bool (is_next (160 + k.number) c)) [
    | inl next ↦
        let front : tagged (tag_of k) (alone k.at) c ≡ Ok (v, rest) =
        sym (explicit_is k.at k.number (tag_of k) c refl) ∙ rw next at field_known in
        rw (next, front, behind) refl
    | inr gone ↦ let p = ok_pair k.default v c rest (rw gone at field_known) in rw (gone, p.1, behind) refl
  ]

  -- A fault of those behind it is theirs together.
  pub field_spelled_not : (e : ErrorKind) → spelling_read ks rest ≡ Err e → spelling_read (k ∷ ks) c ≡ Err e
  field_spelled_not e behind = elim (cases_Bool (is_next (160 + k.number) c)) [
    | inl next ↦
        let front : tagged (tag_of k) (alone k.at) c ≡ Ok (v, rest) =
        sym (explicit_is k.at k.number (tag_of k) c refl) ∙ rw next at field_known in
        rw (next, front, behind) refl
    | inr gone ↦ let p = ok_pair k.default v c rest (rw gone at field_known) in rw (gone, p.1, behind) refl
  ]

  -- It means the value.
  pub field_meant : or_default k.default (value_if_next k v c) ≡ v
  field_meant = elim (cases_Bool (is_next (160 + k.number) c)) [
    | inl next ↦ rw next refl
    | inr gone ↦ rw gone (ok_pair k.default v c rest (rw gone at field_known)).0
  ]

-- Whether it is there with its default, by the octet of its tag.
pub default_there : (k : Kind) (v : k.Value) (c : List ℕ)
    → (is_next (160 + k.number) c && k.is_default v) ≡ default_is_there k (value_if_next k v c)
default_there k v c = elim (cases_Bool (is_next (160 + k.number) c)) [
  | inl next ↦ rw next refl
  | inr gone ↦ rw gone refl
]

-- Identifiers whose parameters are mapped to other values and back.
option_meant : {X V W : Type 0} (value : X → V) (other : X → W) (f : V → W) → ((x : X) → other x ≡ f (value x))
    → (o : Option X) → option_map other o ≡ option_map f (option_map value o)
option_meant value other f same None = refl
option_meant value other f same (Some x) = ap Some (same x)

pub algorithm_mapped : {X V W : Type 0} {value : X → V} {other : X → W} → IsMapped value other
    → IsMapped (algorithm_with value) (algorithm_with other)
algorithm_mapped {X} {V} {W} {value} {other} k = record {
  there = algorithm_map k.there;
  back = algorithm_map k.back;
  meant =
      λ a. let p =
      option_meant value other k.there k.meant a.parameters in
      λ i. record { oid = (algorithm_with other a).oid; parameters = p i };
}

-- What a call gives that reads the contents of an encoding of any tag, which is that of the type.
pub read_as_any : {X V : Type 0} {contents : V → List ℕ → Type 0} {read : Reading V} (value : X → V) (tag : Tag)
    → ReadsContents contents read → (v : TagAndContents) (asked : Type 0) → AreBytes v.contents
    → length v.contents ≤ limit → v.tag ≡ tag.octet → (r : Result X Error)
    → Returns value (limited read v.contents) asked r → IfOk r (λ x. (v.tag ≡ tag.octet) × contents (value x) v.contents)
read_as_any {read = read} value tag law v asked bytes few same (Ok x) p =
    (same, law.gives v.contents (value x) bytes (sym (limited_is read v.contents few) ∙ p))
read_as_any value tag law v asked bytes few same (Err e) p = tt

-- Where the tag of a number was read, by a reader, and at the front of bytes.
pub reads_at_tag : {X V : Type 0} (value : X → V) (at : FrontReading V) (may : List ℕ → Type 0) (n : ℕ) (tag : Tag)
    → tag.octet ≡ context_octet n → (r : Result X Error) (before after : Input)
    → ReadsFront value (tagged tag (alone at)) (Tlv tag.octet may) r before after
    → ReadsFront value (explicit n at) (Tlv (context_octet n) may) r before after
reads_at_tag value at may n tag is r before after reads =
    subst (λ f. ReadsFront value f (Tlv (context_octet n) may) r before after)
    (λ j i. sym (explicit_is at n tag i is) j)
    (subst (λ o. ReadsFront value (tagged tag (alone at)) (Tlv o may) r before after) is reads)

pub field_not_read : {V : Type 0} (at : FrontReading V) (default : V) (may : List ℕ → Type 0) (n : ℕ) (tag : Tag)
    (b : List ℕ) (e : ErrorKind) → tag.octet ≡ context_octet n → is_next (context_octet n) b ≡ true
    → FaultOrMemory e (AllocatesAtFront (Tlv tag.octet may) b) (tagged tag (alone at) b ≡ Err e)
    → FaultOrMemory e (AllocatesAtFront (Tlv (context_octet n) may) b) (defaulted n at default b ≡ Err e)
field_not_read at default may n tag b e is next (inl w) =
    inl (w.0, subst (λ o. AllocatesAtFront (Tlv o may) b) is w.1)
field_not_read at default may n tag b e is next (inr f) = inr (rw next (explicit_is at n tag b is ∙ f))

-- Contents behind the octet of a tag that is known are split off by it.
header_of_tag : (tag : Tag) (xs : List ℕ) → header_at (tag.octet ∷ xs) ≡ with_tag tag.octet (length_at xs)
unfolding header_at
header_of_tag tag xs = rw tag.allowed refl

any_tag_fails : {V : Type 0} (tag : Tag) (read : ℕ → Reading V) (k : ErrorKind) (r : Result (ℕ × List ℕ) ErrorKind)
    → (with_tag tag.octet r >>= λ h. contents_behind tag h >>= inside octets_of_all) ≡ Err k
    → (with_tag tag.octet r >>= λ h. front_of h.0.1 h.1 >>= inside (read h.0.0)) ≡ Err k
any_tag_fails tag read k (Err e) p = cc
any_tag_fails tag read k (Ok q) p =
    let octet : (tag.octet == tag.octet) ≡ true = grind arith in
    go (front_of q.0 q.1) (rw octet at p)
  where
    go : (s : Result (List ℕ × List ℕ) ErrorKind) → (s >>= inside octets_of_all) ≡ Err k
        → (s >>= inside (read tag.octet)) ≡ Err k
    go (Err e) p = cc
    go (Ok c) p = cc

pub by_tag_fails : {V : Type 0} (tag : Tag) (read : ℕ → Reading V) (k : ErrorKind) (b : List ℕ)
    → slice_get b 0 ≡ Some tag.octet → tagged tag octets_of_all b ≡ Err k → by_tag read b ≡ Err k
by_tag_fails tag read k [] first e = cc
by_tag_fails tag read k (x ∷ xs) first e =
    let is : x ≡ tag.octet = cc in
    let head : header_at (x ∷ xs) ≡ with_tag tag.octet (length_at xs) =
    ap (λ o. header_at (o ∷ xs)) is ∙ header_of_tag tag xs in
    ap (λ r. r >>= λ h. front_of h.0.1 h.1 >>= inside (read h.0.0)) head
    ∙ any_tag_fails tag read k (length_at xs) (rw head at e)

-- The first octet isn't there, or isn't that of a tag.
pub no_tag : (b : List ℕ) → length b ≡ 0 → any_front b ≡ Err Incomplete
unfolding header_at
no_tag [] none = refl
no_tag (x ∷ xs) none = absurd (omega arith)

pub unknown_tag : (b : List ℕ) → 1 ≤ length b → is_allowed (slice_index_or b 0 0) ≡ false
    → any_front b ≡ Err (TagUnknown (slice_index_or b 0 0))
unfolding header_at
unknown_tag [] some isnt = absurd (omega arith)
unknown_tag (x ∷ xs) some isnt = rw isnt refl
