-- What is written of parameters: of equal values, under a mask; and what their encodings exclude. For
-- `src/spelling.rt`, `src/contents.rt` and the laws of spellings. What holds of any encoding, the crates above cite
-- too.
use Rattle.std.proofs.Common.{ℕ, List, ◌≡◌, ◌<◌, length, refl, subst, take, Result, Ok, Err, ◌↔◌, Option, Some, None, [], ◌∷◌, ◌++◌, ◌+◌, ◌*◌, Bool, true, false, arith, ap, ◌∙◌, sym, ◌^◌, if◌then◌else◌, pow_pos, inl, inr, append-nil, slice_index}
use Rattle.der_core.specs.Words.{limit, EncodeError, no_encoding, too_long, no_room, another, Appends, Counts, Unwritten, WhyOctetsNotCounted, encode_error, octets_appended_as, one_spelling_shortest, tagged_shortest, Spells, WritesShortest, prints_one, Excludes}
use Rattle.der_core.specs.declared.error.Error as errors
use Rattle.der_core.specs.declared.error.ErrorKind.{ErrorKind}
use Rattle.der_core.specs.declared.error.ErrorKind.TheVariants.{Overflow}
use Rattle.der_core.specs.declared.error.ErrorKind.TheVariants as kinds
use Rattle.pkcs1_params.specs.Words.{Refuses, Error, bit_of, bits_of, EncodingOfFields, EncodingUnderMask, MaskIsInRange, IsMask, AreDelimited, EachHasMaskZero, DefaultsAreCounted, EachHasOneMask, EachMaskHasOne, ShortestHasNoDefaults, PlainEncoding, asn1_as, same_contents, encodes_as, refuses_as, shortest_as, oaep_fields_begin_high, pss_fields_begin_high, record_differs}
use Rattle.standard.specs.Statement.{AlgorithmEncoding, Encodes, IsShortest, Field, sequence, Fields, SequenceOf, IsOaep, IsPss, OaepAlgorithmEncoding, OaepEncoding, PssEncoding, PssAlgorithmEncoding, id_rsaes_oaep, id_rsassa_pss, length_octets, oaep_fields, pss_fields, tlv}
use Rattle.spki_core.specs.Words.{AreSpelled, FieldRecord, WrittenField, are_defaults, octets_under, out_under, record_fields, record_under, rest_under, spelling_printed, Spelling, under_valid, octets_spelled, record_means, record_front_law, spelled_from}
use Rattle.spki_core.proofs.RecordEncodings.{default_count_only, default_count_there, default_count, encoding_under, mask_below_count, under_spelled, zero_least, zero_shortest, encoding_has_one_mask, encoding_under_only, under_is_one}
use Rattle.pkcs1_params.proofs.Wrapped.{wrapped_front}

-- The same octets, of a value with an encoding.
module _ (Has Is : Type 0) (has : Has) (is : Is) where
  pub appends_as : {W A : Type 0} (octets others : List ℕ) (Room : W → Option ℕ) (Written : W → List ℕ → Type 0)
      (old new : W) (r : Result A errors.Error) → octets ≡ others → Appends Has octets Room Written old new r
      → Appends Is others Room Written old new r
  appends_as octets others Room Written old new r same a =
      subst (λ o. Appends Is o Room Written old new r) same (octets_appended_as has is octets Room Written old new r a)

-- Octets that there are aren't counted only if there are too many.
pub uncounted_overflows : {H : Type 0} (octets : List ℕ) (k : ErrorKind) → H
    → WhyOctetsNotCounted H octets (encode_error k)
    → (k ≡ Overflow) × (limit < length octets)
uncounted_overflows octets (kinds.Value tag) has h = absurd (h has)
uncounted_overflows octets kinds.Overflow has h = (refl, h.1)
uncounted_overflows octets kinds.NoRoom has h = absurd h
uncounted_overflows octets kinds.Failed has h = absurd h
uncounted_overflows octets kinds.Incomplete has h = absurd h
uncounted_overflows octets kinds.IndefiniteLength has h = absurd h
uncounted_overflows octets (kinds.Length tag) has h = absurd h
uncounted_overflows octets (kinds.Noncanonical tag) has h = absurd h
uncounted_overflows octets kinds.OidMalformed has h = absurd h
uncounted_overflows octets kinds.OidUnknown has h = absurd h
uncounted_overflows octets kinds.Overlength has h = absurd h
uncounted_overflows octets kinds.ParametersMissing has h = absurd h
uncounted_overflows octets (kinds.TagUnexpected expected actual) has h = absurd h
uncounted_overflows octets (kinds.TagUnknown octet) has h = absurd h
uncounted_overflows octets kinds.TrailingData has h = absurd h
uncounted_overflows octets kinds.File has h = absurd h
uncounted_overflows octets kinds.OutOfMemory has h = absurd h

-- Why octets aren't counted, under one premise and under another.
uncounted_of_same_premise : {P Q : Type 0} (octets : List ℕ) → (P → Q) → (Q → P) → (k : EncodeError)
    → WhyOctetsNotCounted P octets k → WhyOctetsNotCounted Q octets k
uncounted_of_same_premise octets there back no_encoding u = λ q. u (back q)
uncounted_of_same_premise octets there back too_long u = (there u.0, u.1)
uncounted_of_same_premise octets there back no_room u = u
uncounted_of_same_premise octets there back another u = u

-- Counted under one premise is counted under another.
pub counts_as : {P Q : Type 0} (octets : List ℕ) (r : Result ℕ errors.Error) → (P → Q) → (Q → P) → Counts P octets r
    → Counts Q octets r
counts_as octets (Ok n) there back c = (there c.0, c.1, c.2)
counts_as octets (Err e) there back c = uncounted_of_same_premise octets there back (encode_error e.kind) c

-- == Under a mask, what the code joins field by field is what is printed of the spelling ==

-- Of fields that all have their defaults, none is there under mask 0.
octets_under_none : (fs : List WrittenField) → bits_of (are_defaults fs) ≡ 0 → octets_under 0 fs ≡ []
octets_under_none [] none = refl
octets_under_none (f ∷ fs) none = go f.is_default (octets_under_none fs) none
  where
    go : (b : Bool) → (bits_of (are_defaults fs) ≡ 0 → octets_under 0 fs ≡ [])
        → bit_of b + 2 * bits_of (are_defaults fs) ≡ 0
        → (if out_under b 0 then [] else f.octets) ++ octets_under (rest_under b 0) fs ≡ []
    go true later is = later (omega arith)
    go false later is = absurd (omega arith)

module _ {V : Type 0} {Is : V → Type 0} {fields : V → List Field} (r : FieldRecord Is fields) (v : V) (mask : ℕ) where
  pub record_is_spelled : Is v → AreSpelled r.kinds (record_under r mask v)
  record_is_spelled ok = under_valid r.kinds mask (r.split v) (r.are v ok)

  pub octets_under_spelled : (fs : List WrittenField) → fs ≡ record_fields r v
      → octets_under mask fs ≡ spelling_printed r.kinds (record_under r mask v)
  octets_under_spelled fs is = ap (octets_under mask) is ∙ octets_spelled r.kinds mask (r.split v)

  -- Of defaults alone, nothing is printed under mask 0.
  pub nothing_spelled : mask ≡ 0 → bits_of (are_defaults (record_fields r v)) ≡ 0
      → spelling_printed r.kinds (record_under r mask v) ≡ []
  nothing_spelled zero none =
      sym (octets_spelled r.kinds mask (r.split v)) ∙ ap (λ m. octets_under m (record_fields r v)) zero
      ∙ octets_under_none (record_fields r v) none

module _ {V : Type 0} {Is : V → Type 0} {fields : V → List Field} (r : FieldRecord Is fields) where
  -- The kernel writes the spelling under the mask, which is its only one.
  abbrev pub spelling_encoding : Spelling r.kinds → List ℕ
  spelling_encoding s = sequence (spelling_printed r.kinds s)

  -- Each spelling has one encoding.
  pub spelling_written : WritesShortest (AreSpelled r.kinds) spelling_encoding (λ s. s) (λ s. s)
  spelling_written = tagged_shortest (one_spelling_shortest (AreSpelled r.kinds) (spelling_printed r.kinds)) 48

  abbrev pub SpellingSpells : Spelling r.kinds → List ℕ → Type 0
  SpellingSpells = Spells (AreSpelled r.kinds) spelling_encoding (λ s. s)

  pub mask_in_range : (v : V) (mask : ℕ) → IsMask (fields v) mask → MaskIsInRange (fields v) mask
  mask_in_range v mask m =
      λ k d. subst (λ n. mask < 2 ^ n) (sym (default_count_only r v k d)) (mask_below_count r v mask m)

  module _ (v : V) (ok : Is v) (mask : ℕ) (m : IsMask (fields v) mask) where
    -- It has the encoding of the value under the mask.
    under_mask_spelled : (bytes : List ℕ)
        → SpellingSpells (record_under r mask v) bytes ↔ EncodingUnderMask mask Is fields v bytes
    under_mask_spelled = under_spelled r v mask ok (mask_below_count r v mask m)

    -- So what a call wrote, and why it didn't, is so of the value under the mask.
    pub under_encodes : (old new : List ℕ) (n : Option ℕ) → Encodes SpellingSpells (record_under r mask v) old new n
        → Encodes (EncodingUnderMask mask Is fields) v old new n
    under_encodes =
        encodes_as SpellingSpells (EncodingUnderMask mask Is fields) (record_under r mask v) v under_mask_spelled

    pub under_shortest : (bytes : List ℕ) → IsShortest SpellingSpells (record_under r mask v) bytes
        → IsShortest (EncodingUnderMask mask Is fields) v bytes
    under_shortest = shortest_as SpellingSpells (EncodingUnderMask mask Is fields) (record_under r mask v) v
        under_mask_spelled

    pub under_refuses : (room : ℕ) (e : Error)
        → Refuses (AreSpelled r.kinds) SpellingSpells (record_under r mask v) room e
        → Refuses (λ _. Unit {0}) (EncodingUnderMask mask Is fields) v room e
    under_refuses =
        refuses_as SpellingSpells (EncodingUnderMask mask Is fields) (record_under r mask v) v under_mask_spelled
        (AreSpelled r.kinds)
        (λ _. Unit {0}) ((λ _. tt), (λ _. record_is_spelled r v mask ok))

  -- Mask 0 is one of each value, and gives the shortest encoding.
  pub zero_mask : (v : V) → IsMask (fields v) 0
  zero_mask v = (default_count r v, default_count_there r v, pow_pos (default_count r v))

  module _ (v : V) where
    -- So what was written under it, and why it wasn't, is so of the value.
    pub zero_encodes : (old new : List ℕ) (n : Option ℕ) → Encodes (EncodingUnderMask 0 Is fields) v old new n
        → Encodes (EncodingOfFields Is fields) v old new n
    zero_encodes old new (Some n) e = (e.0, zero_shortest r v (take n new) e.1.0, e.2)
    zero_encodes old new None e = (
      e.0,
      λ bytes p. let z = zero_least r v bytes p in let l = e.1 (encoding_under r v 0) z.0 in omega
          (arith, l, z.1),
    )

    unwritten_zero : (room : ℕ) (k : EncodeError) → Unwritten (λ _. Unit {0}) (EncodingUnderMask 0 Is fields) v room k
        → Unwritten (λ _. Unit {0}) (EncodingOfFields Is fields) v room k
    unwritten_zero room no_encoding h = h
    unwritten_zero room too_long h = (h.0, λ bytes p. h.1 (encoding_under r v 0) (zero_least r v bytes p).0)
    unwritten_zero room no_room h = (h.0, zero_shortest r v h.0 h.1.0, h.2)
    unwritten_zero room another h = h

    pub zero_refuses : (room : ℕ) (e : Error) → Refuses (λ _. Unit {0}) (EncodingUnderMask 0 Is fields) v room e
        → Refuses (λ _. Unit {0}) (EncodingOfFields Is fields) v room e
    zero_refuses room = asn1_as (λ e. unwritten_zero room (encode_error e.kind))

-- Encodings of parameters: none is a proper beginning of another, and two mean the same by the shortest.
module _ {V : Type 0} {Is : V → Type 0} {fields : V → List Field} (r : FieldRecord Is fields) where
  record_follow : (v w : V) (bytes rest : List ℕ) → SequenceOf Is fields Fields v bytes
      → SequenceOf Is fields Fields w (bytes ++ rest) → (v ≡ w) × (rest ≡ [])
  record_follow v w bytes rest x y =
      let (few, (s, e, ok, is)) = spelled_from r v bytes x in
      let (within, (t, f, right, same)) = spelled_from r w (bytes ++ rest) y in
      let all = ap (λ z. z ++ rest) (sym is) ∙ same ∙ sym (append-nil (sequence (spelling_printed r.kinds t))) in
      let one =
      prints_one (record_front_law r) s t rest [] ok right (omega (arith, ap (λ z. length (z ++ rest)) is)) all in
      (sym e ∙ ap (record_means r) one.0 ∙ f, one.1)

  pub record_delimited : AreDelimited (SequenceOf Is fields Fields)
  record_delimited = ((λ v p. cc), record_follow)

  -- So are those of identifiers with parameters.
  pub algorithm_delimited : (oid : List ℕ) → AreDelimited (AlgorithmEncoding oid (SequenceOf Is fields Fields))
  algorithm_delimited oid = (
    (λ v p. cc),
    λ v w bytes rest (few, p, x, is) (within, q, y, same).
        let one =
        wrapped_front oid p q rest (omega (arith, ap length is)) (omega (arith, ap length same))
        (ap (λ z. z ++ rest) (sym is) ∙ same) in
        let other : SequenceOf Is fields Fields w (p ++ []) =
        subst (SequenceOf Is fields Fields w) (sym (append-nil p ∙ one.0)) y in
        ((record_follow v w p [] x other).0, one.1),
  )

  -- The laws of masks.
  pub defaults_counted : DefaultsAreCounted fields
  defaults_counted v = (default_count r v, default_count_there r v, default_count_only r v)

  pub each_has_one_mask : EachHasOneMask Is fields
  each_has_one_mask v bytes p =
      let (mask, q, only) = encoding_has_one_mask r v bytes p in
      (mask, (default_count r v, default_count_there r v, (encoding_under_only r v mask bytes q).0), q, only)

  pub each_mask_has_one : EachMaskHasOne Is fields
  each_mask_has_one v mask x y p q =
      let same = (encoding_under_only r v mask x p).1 ∙ sym (encoding_under_only r v mask y q).1 in
      (same, under_is_one r v mask x p)

  pub shortest_has_no_defaults : ShortestHasNoDefaults Is fields
  shortest_has_no_defaults v bytes = (
    zero_shortest r v bytes,
    λ s.
        let z = zero_least r v bytes s.0 in
        elim (s.1 (encoding_under r v 0) (under_is_one r v 0 (encoding_under r v 0) z.0)) [
          | inl same ↦ subst (EncodingUnderMask 0 Is fields v) same z.0
          | inr l ↦ absurd (omega arith)
        ],
  )

  pub each_has_mask_zero : EachHasMaskZero Is fields
  each_has_mask_zero v bytes p = let z = zero_least r v bytes p in (encoding_under r v 0, z.0, z.1)

-- == No bytes encode parameters and something with another tag, or identifiers of two algorithms ==

pub pss_no_identifier : Excludes PssEncoding PlainEncoding
pss_no_identifier v a bytes p q =
    record_differs IsPss pss_fields v 6 bytes _ (omega arith) (pss_fields_begin_high v) q.2 p

pub oaep_no_identifier : Excludes OaepEncoding PlainEncoding
oaep_no_identifier v a bytes p q =
    record_differs IsOaep oaep_fields v 6 bytes _ (omega arith) (oaep_fields_begin_high v) q.2 p

pub algorithms_differ : Excludes PssAlgorithmEncoding OaepAlgorithmEncoding
unfolding length_octets
algorithms_differ v w bytes p q =
    let same =
    same_contents (tlv 6 id_rsassa_pss ++ p.1) (tlv 6 id_rsaes_oaep ++ q.1)
    (omega (arith, ap length p.3)) (sym p.3 ∙ q.3) in
    let last : 10 ≡ 7 = ap (λ (l : List ℕ). slice_index l 10) same in
    omega (arith, last)
