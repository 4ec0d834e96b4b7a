-- What follows for every SEQUENCE of fields with defaults: what is read, the shortest encoding, the one under each
-- mask, and how many there are. For the calls and laws of parameters.
use Rattle.std.proofs.Common.{ℕ, zero, suc, ◌+◌, List, [], ◌∷◌, ◌++◌, ◌≡◌, ◌<◌, ◌≤◌, ◌^◌, length, refl, sym, subst, ap, ◌∙◌, arith, length-append, append-nil, inl, inr, pow_pos, ◌↔◌, slice_index_or}
use Rattle.der_core.specs.Words.{AreBytes, tagged_alike, values_alike, whole_alike, octets_grow, tlv_fit, decodes_as, meant_decodes, optional_itself, prints_one, written_is_shortest as shortest_of, tagged_shortest, limit, Spells, value_in}
use Rattle.der_core.specs.Tags as tags
use Rattle.spki_core.specs.Words.{AreSpelled, FieldRecord, number_of_defaults, spelling_means, record_means, record_under, record_whole, spelling_printed, upto, defaults_are, defaults_there, full, full_last, full_there, spelling_masked, under_is, under_mask, under_means, under_only, under_valid, record_alike, record_front_law, record_shortest, spelled_from, spelled_to}
use Rattle.spki_core.specs.FieldSpellings.{mask_of}
use Rattle.standard.specs.Statement.{AreAll, Decodes, Defaults, Field, Fields, FieldsUnder, IsShortest, SequenceOf, TwoToTheDefaults, length_octets, longest, sequence}

-- Lists by a function.
length_upto : {X : Type 0} (n : ℕ) (f : ℕ → X) → length (upto n f) ≡ n
length_upto zero f = refl
length_upto (suc n) f = let e = length_upto n (λ i. f (suc i)) in omega arith

pub index_upto : {X : Type 0} (n : ℕ) (f : ℕ → X) (d : X) (i : ℕ) → i < n → slice_index_or (upto n f) i d ≡ f i
index_upto zero f d i less = absurd (omega arith)
index_upto (suc n) f d zero less = refl
index_upto (suc n) f d (suc i) less = index_upto n (λ i. f (suc i)) d i (omega arith)

upto_suc : {X : Type 0} (n : ℕ) (f : ℕ → X) → upto (suc n) f ≡ upto n f ++ f n ∷ []
upto_suc zero f = refl
upto_suc (suc n) f = ap (λ xs. f 0 ∷ xs) (upto_suc n (λ i. f (suc i)))

pub upto_more : {X : Type 0} (n : ℕ) (f : ℕ → X) → upto (n + 1) f ≡ upto n f ++ f n ∷ []
upto_more n f = let next : n + 1 ≡ suc n = omega arith in rw next (upto_suc n f)

-- A SEQUENCE of no more contents is no longer.
pub sequence_grows : (c d : List ℕ) → length c ≤ length d → length d ≤ limit → length (sequence c) ≤ length (sequence d)
sequence_grows c d less few =
    let g = octets_grow (length c) (length d) less few in
    omega (arith, length-append (length_octets (length c)) c, length-append (length_octets (length d)) d)

module _ {V : Type 0} {Is : V → Type 0} {fields : V → List Field} (r : FieldRecord Is fields) where
  -- What the kernel prints of spellings is the SEQUENCE of the standard's fields.
  pub record_spelled : (v : V) (bytes : List ℕ)
      → Spells (AreSpelled r.kinds) (λ s. sequence (spelling_printed r.kinds s)) (record_means r) v bytes
      ↔ SequenceOf Is fields Fields v bytes
  record_spelled v bytes = (spelled_to r v bytes, spelled_from r v bytes)

  -- What the function that reads a whole slice is promised to give.
  pub record_decodes : (bytes : List ℕ) → AreBytes bytes
      → Decodes (SequenceOf Is fields Fields) bytes (value_in (record_whole r bytes))
  record_decodes bytes octets =
      let E = Spells (AreSpelled r.kinds) (λ s. sequence (spelling_printed r.kinds s)) (record_means r) in
      let decoded : Decodes E bytes (value_in (record_whole r bytes)) =
      subst (Decodes E bytes) (values_alike (whole_alike (tagged_alike (record_alike r) tags.sequence_tag)) bytes)
      (meant_decodes (record_front_law r) (record_means r) bytes octets) in
      rw optional_itself at (decodes_as E (SequenceOf Is fields Fields) (λ v. v) (λ v. v) (λ v. refl) bytes
      (λ v. spelled_to r v bytes) (λ v. spelled_from r v bytes) (value_in (record_whole r bytes)) decoded)

  -- The encoding under a mask, and the number of defaults.
  abbrev pub encoding_under : V → ℕ → List ℕ
  encoding_under v mask = sequence (spelling_printed r.kinds (record_under r mask v))

  abbrev pub default_count : V → ℕ
  default_count v = number_of_defaults r.kinds (r.split v)

  pub default_count_only : (v : V) (k : ℕ) → Defaults (fields v) k → k ≡ default_count v
  default_count_only v k d = defaults_are r.kinds 0 r.lawful (r.split v) k (rw (r.fields_are v) at d)

  pub default_count_there : (v : V) → Defaults (fields v) (default_count v)
  default_count_there v = rw (r.fields_are v) (defaults_there r.kinds 0 r.lawful (r.split v))

  pub valid_under : (v : V) (mask : ℕ) → Is v → AreSpelled r.kinds (record_under r mask v)
  valid_under v mask ok = under_valid r.kinds mask (r.split v) (r.are v ok)

  -- It encodes the value.
  encoding_under_spells : (v : V) (mask : ℕ) → Is v → length (encoding_under v mask) ≤ limit
      → SequenceOf Is fields Fields v (encoding_under v mask)
  encoding_under_spells v mask ok few =
      let means = ap r.join (under_means r.kinds 0 r.lawful mask (r.split v)) ∙ r.whole v in
      spelled_to r v (encoding_under v mask) (few, (record_under r mask v, means, valid_under v mask ok, refl))

  -- Under mask 0 it is the shortest.
  pub encoding_under_zero_shortest : (v : V) → Is v → length (encoding_under v 0) ≤ limit
      → IsShortest (SequenceOf Is fields Fields) v (encoding_under v 0)
  encoding_under_zero_shortest v ok few =
      let h = shortest_of (tagged_shortest (record_shortest r) 48) v (valid_under v 0 ok) few in
      (spelled_to r v (encoding_under v 0) h.0, λ other q. h.1 other (spelled_from r v other q))

  -- Under a mask there is one.
  pub encoding_under_only : (v : V) (mask : ℕ) (bytes : List ℕ) → SequenceOf Is fields (FieldsUnder mask) v bytes
      → (mask < 2 ^ default_count v) × (bytes ≡ encoding_under v mask)
  encoding_under_only v mask bytes (ok, few, c, p, is) =
      let h = under_only r.kinds 0 r.lawful mask (r.split v) c (rw (r.fields_are v) at p) in
      (h.0, is ∙ ap sequence h.1)

  pub written_under : (v : V) (mask : ℕ) → Is v → mask < 2 ^ default_count v → length (encoding_under v mask) ≤ limit
      → SequenceOf Is fields (FieldsUnder mask) v (encoding_under v mask)
  written_under v mask ok less few =
      let there : FieldsUnder mask (fields v) (spelling_printed r.kinds (record_under r mask v)) =
      rw (r.fields_are v) (under_is r.kinds 0 r.lawful mask (r.split v) less) in
      (ok, few, spelling_printed r.kinds (record_under r mask v), there, refl)

  -- It is an encoding of the value.
  pub under_is_one : (v : V) (mask : ℕ) (bytes : List ℕ) → SequenceOf Is fields (FieldsUnder mask) v bytes
      → SequenceOf Is fields Fields v bytes
  under_is_one v mask bytes p =
      let (less, is) = encoding_under_only v mask bytes p in rw is (encoding_under_spells v mask p.0 (rw is at p.1))

  -- As what the kernel prints of the spelling.
  pub under_spelled : (v : V) (mask : ℕ) → Is v → mask < 2 ^ default_count v → (bytes : List ℕ)
      → Spells (AreSpelled r.kinds) (λ s. sequence (spelling_printed r.kinds s)) (λ s. s) (record_under r mask v) bytes
      ↔ SequenceOf Is fields (FieldsUnder mask) v bytes
  under_spelled v mask ok less bytes = (
    (λ (few, (s, e, valid, is)).
        let same : bytes ≡ encoding_under v mask = is ∙ ap (λ z. sequence (spelling_printed r.kinds z)) e in
        rw same (written_under v mask ok less (rw same at few))),
    (λ q. (q.1, (record_under r mask v, refl, valid_under v mask ok, (encoding_under_only v mask bytes q).1))),
  )

  -- A mask is below two to the number of defaults.
  pub mask_below_count : (v : V) (mask : ℕ) → (k : ℕ) × Defaults (fields v) k × (mask < 2 ^ k)
      → mask < 2 ^ default_count v
  mask_below_count v mask (k, d, less) = rw (default_count_only v k d) at less

  -- Each encoding stands under a mask, and under no other.
  pub encoding_has_mask : (v : V) (bytes : List ℕ) → SequenceOf Is fields Fields v bytes
      → (mask : ℕ) × (mask < 2 ^ default_count v) × (bytes ≡ encoding_under v mask)
  encoding_has_mask v bytes q =
      let (within, (s, e, valid, is)) = spelled_from r v bytes q in
      let same : spelling_means r.kinds s ≡ r.split v = sym (r.parted (spelling_means r.kinds s)) ∙ ap r.split e in
      let (less, back, fields) = spelling_masked r.kinds 0 r.lawful s in
      (mask_of r.kinds s, rw same at less, is ∙ ap (λ z. sequence (spelling_printed r.kinds z)) (sym (rw same at back)))

  -- Two masks have two encodings.
  pub masks_differ : (v : V) (i j : ℕ) → Is v → i < 2 ^ default_count v → j < 2 ^ default_count v
      → length (encoding_under v i) ≤ limit → encoding_under v i ≡ encoding_under v j → i ≡ j
  masks_differ v i j ok less also few e =
      let one = prints_one (record_front_law r) (record_under r i v) (record_under r j v) [] [] (valid_under v i ok)
      (valid_under v j ok) (omega (arith, ap length (append-nil (encoding_under v i)))) (ap (λ x. x ++ []) e) in
      sym (under_mask r.kinds 0 r.lawful i (r.split v) less) ∙ ap (mask_of r.kinds) one.0
      ∙ under_mask r.kinds 0 r.lawful j (r.split v) also

  pub encoding_has_one_mask : (v : V) (bytes : List ℕ) → SequenceOf Is fields Fields v bytes
      → (mask : ℕ) × SequenceOf Is fields (FieldsUnder mask) v bytes
      × ((other : ℕ) → SequenceOf Is fields (FieldsUnder other) v bytes → other ≡ mask)
  encoding_has_one_mask v bytes q =
      let (mask, less, is) = encoding_has_mask v bytes q in
      let few : length (encoding_under v mask) ≤ limit = rw is at q.1 in (
        mask,
        subst (SequenceOf Is fields (FieldsUnder mask) v) (sym is) (written_under v mask q.0 less few),
        λ other p.
            let h = encoding_under_only v other bytes p in
            sym (masks_differ v mask other q.0 less h.0 few (sym is ∙ h.1)),
      )

  -- The one under mask 0 is the shortest.
  pub zero_shortest : (v : V) (bytes : List ℕ) → SequenceOf Is fields (FieldsUnder 0) v bytes
      → IsShortest (SequenceOf Is fields Fields) v bytes
  zero_shortest v bytes p =
      let is = (encoding_under_only v 0 bytes p).1 in rw is (encoding_under_zero_shortest v p.0 (rw is at p.1))

  -- And it is there for each value that has an encoding.
  pub zero_least : (v : V) (bytes : List ℕ) → SequenceOf Is fields Fields v bytes
      → SequenceOf Is fields (FieldsUnder 0) v (encoding_under v 0) × (length (encoding_under v 0) ≤ length bytes)
  zero_least v bytes q =
      let (few, (s, e, ok, is)) = spelled_from r v bytes q in
      let count = ap length is in
      let under = ap (λ w. length (encoding_under w 0)) e in
      let less : length (encoding_under v 0) ≤ length bytes =
      elim ((tagged_shortest (record_shortest r) 48).least s ok (omega arith)) [
        | inl same ↦ omega (arith, ap (λ z. length (sequence (spelling_printed r.kinds z))) same)
        | inr l ↦ omega arith
      ] in
      (written_under v 0 q.0 (pow_pos (default_count v)) (omega arith), less)

  -- All of them.
  encoding_under_below_longest : (v : V) (mask : ℕ) → length (longest (fields v)) ≤ limit
      → length (encoding_under v mask) ≤ length (longest (fields v))
  encoding_under_below_longest v mask few =
      let all = full r.kinds (r.split v) in
      let within : length (sequence all) ≤ limit = rw (r.fields_are v) at few in
      let l : length (spelling_printed r.kinds (record_under r mask v)) ≤ length all =
      rw (under_means r.kinds 0 r.lawful mask (r.split v)) at (full_last r.kinds (record_under r mask v)) in
      rw (r.fields_are v)
      (sequence_grows (spelling_printed r.kinds (record_under r mask v)) all l (omega (arith, tlv_fit 48 all)))

  pub encoding_under_fits : (v : V) (mask : ℕ) → length (longest (fields v)) ≤ limit
      → length (encoding_under v mask) ≤ limit
  encoding_under_fits v mask few = let g = encoding_under_below_longest v mask few in omega arith

  -- Under the greatest mask it is the longest.
  pub full_longest : (v : V) (mask : ℕ) → mask + 1 ≡ 2 ^ default_count v → encoding_under v mask ≡ longest (fields v)
  full_longest v mask is =
      ap sequence (full_there r.kinds (r.split v) mask is) ∙ ap longest (sym (r.fields_are v))

  -- The list under all masks is that of all encodings.
  pub encodings_are_all : (v : V) → Is v → length (longest (fields v)) ≤ limit
      → AreAll (λ E. E) Is fields v (default_count v) (upto (2 ^ default_count v) (encoding_under v))
  encodings_are_all v ok few = record {
    count = length_upto (2 ^ default_count v) (encoding_under v);
    under = λ i less.
        rw (at i less) (written_under v i ok less (encoding_under_fits v i few));
    different = λ i j less also e.
        masks_differ v i j ok less also (encoding_under_fits v i few) (sym (at i less) ∙ e ∙ at j also);
    every = λ bytes. (
      (λ q. let h = encoding_has_mask v bytes q in (h.0, h.1, at h.0 h.1 ∙ sym h.2)),
      (λ p. rw (← p.2, at p.0 p.1) (encoding_under_spells v p.0 ok (encoding_under_fits v p.0 few))),
    );
  }
    where
      at : (i : ℕ) → i < 2 ^ default_count v
          → slice_index_or (upto (2 ^ default_count v) (encoding_under v)) i [] ≡ encoding_under v i
      at i less = index_upto (2 ^ default_count v) (encoding_under v) [] i less

  -- None is longer than the longest.
  pub encodings_within_longest : (v : V) → length (longest (fields v)) ≤ limit → (i : ℕ) → i < 2 ^ default_count v
      → length (slice_index_or (upto (2 ^ default_count v) (encoding_under v)) i []) ≤ length (longest (fields v))
  encodings_within_longest v few i less =
      let e = index_upto (2 ^ default_count v) (encoding_under v) [] i less in omega
      (arith, encoding_under_below_longest v i few, ap length e)

  -- So there are two to the number of defaults.
  pub two_to_the_defaults : TwoToTheDefaults Is fields
  two_to_the_defaults v k ok d few =
      rw (default_count_only v k d) (upto (2 ^ default_count v) (encoding_under v), encodings_are_all v ok few)
