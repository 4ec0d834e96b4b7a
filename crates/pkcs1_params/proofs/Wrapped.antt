-- SEQUENCEs of an identifier and parameters: each encoding of the parameters stands in one. For `src/algorithm.rt` and
-- the laws of algorithm identifiers.
use Rattle.std.proofs.Common.{ℕ, List, [], ◌++◌, ◌≡◌, ◌<◌, ◌≤◌, ◌^◌, length, drop, map, refl, sym, subst, ap, ◌∙◌, arith, inl, inr, length-append, append-nil, ◌+◌, slice_index_or, Option, Some, None}
use Rattle.std.proofs.Math.Seq.{drop-append_seam}
use Rattle.std.proofs.lemmas.Bool.{cases_lt}
use Rattle.std.proofs.lemmas.List.{get_or-map, length-map}
use Rattle.der_core.specs.Words.{octets_grow, tlv_fit, limit}
use Rattle.pkcs1_params.specs.Words.{front_contents}
use Rattle.standard.specs.Statement.{AlgorithmEncoding, AreAll, Decodes, Field, Fields, FieldsUnder, IsShortest, SequenceOf, length_octets, longest, sequence, tlv}

module _ (oid : List ℕ) where
  abbrev pub wrapped : List ℕ → List ℕ
  wrapped parameters = sequence (tlv 6 oid ++ parameters)

  pub wrapped_fit : (p : List ℕ) → length p ≤ length (wrapped p)
  wrapped_fit p = omega (arith, tlv_fit 48 (tlv 6 oid ++ p), length-append (tlv 6 oid) p)

  -- Longer parameters make a longer one, by as many octets at least.
  wrapped_grows : (p q : List ℕ) → length p ≤ length q → length (wrapped q) ≤ limit
      → length (wrapped p) + length q ≤ length (wrapped q) + length p
  wrapped_grows p q less few =
      let c = tlv 6 oid ++ p in
      let d = tlv 6 oid ++ q in
      let first : length c ≡ length (tlv 6 oid) + length p = length-append (tlv 6 oid) p in
      let second : length d ≡ length (tlv 6 oid) + length q = length-append (tlv 6 oid) q in
      let g = octets_grow (length c) (length d) (omega arith) (omega (arith, tlv_fit 48 d)) in
      omega (arith, length-append (length_octets (length c)) c, length-append (length_octets (length d)) d)

  -- None is a proper beginning of another, and the same one has the same parameters.
  pub wrapped_front : (p q rest : List ℕ) → length (wrapped p) ≤ limit → length (wrapped q) ≤ limit
      → wrapped p ++ rest ≡ wrapped q → (p ≡ q) × (rest ≡ [])
  wrapped_front p q rest few less is =
      let both =
      front_contents (tlv 6 oid ++ p) (tlv 6 oid ++ q) rest [] few less (is ∙ sym (append-nil (wrapped q))) in (
        sym (drop-append_seam (tlv 6 oid) p) ∙ ap (drop (length (tlv 6 oid))) both.0 ∙ drop-append_seam (tlv 6 oid) q,
        both.1,
      )

  pub wrapped_one : (p q : List ℕ) → length (wrapped p) ≤ limit → wrapped p ≡ wrapped q → p ≡ q
  wrapped_one p q few is =
      (wrapped_front p q [] few (omega (arith, ap length is)) (append-nil (wrapped p) ∙ is)).0

  -- What the identifier holds encodes its parameters.
  wrapped_inner_encodes : {V : Type 0} (E : V → List ℕ → Type 0) (v : V) (bytes p : List ℕ)
      → AlgorithmEncoding oid E v bytes
      → bytes ≡ wrapped p → E v p
  wrapped_inner_encodes E v bytes p (few, q, holds, is) given =
      subst (E v) (wrapped_one q p (omega (arith, few, ap length is)) (sym is ∙ given)) holds

  -- The shortest encoding of the identifier holds the shortest of the parameters.
  module _ {V : Type 0} (E : V → List ℕ → Type 0) (v : V) (p : List ℕ) (few : length (wrapped p) ≤ limit) where
    shortest_outside : IsShortest E v p → IsShortest (AlgorithmEncoding oid E) v (wrapped p)
    shortest_outside s = (
      (few, p, s.0, refl),
      λ other (within, q, holds, is). elim (s.1 q holds) [
        | inl same ↦ inl (is ∙ ap wrapped same)
        | inr less ↦ inr (
            let g = wrapped_grows p q (omega arith) (omega (arith, ap length is)) in
            omega (arith, ap length is))
      ],
    )

    shortest_inside : IsShortest (AlgorithmEncoding oid E) v (wrapped p) → IsShortest E v p
    shortest_inside s = (
      wrapped_inner_encodes E v (wrapped p) p s.0 refl,
      λ q holds. elim (cases_lt (length p) (length q)) [
        | inl less ↦ inr less
        | inr more ↦
            let g = wrapped_grows q p (omega arith) few in
            elim (s.1 (wrapped q) (omega (arith, few), q, holds, refl)) [
              | inl same ↦ inl (sym (wrapped_one p q few (sym same)))
              | inr l ↦ absurd (omega arith)
            ]
      ],
    )

  -- So strict reading of the one decodes what that of the other does.
  pub wrapped_shortest_decodes : {V : Type 0} (E : V → List ℕ → Type 0) (p : List ℕ) → length (wrapped p) ≤ limit
      → (o : Option V) → Decodes (IsShortest E) p o → Decodes (IsShortest (AlgorithmEncoding oid E)) (wrapped p) o
  wrapped_shortest_decodes E p few (Some v) d =
      (shortest_outside E v p few d.0, λ w s. d.1 w (shortest_inside E w p few s))
  wrapped_shortest_decodes E p few None d = λ w s. d w (shortest_inside E w p few s)

  -- All encodings, by those of the parameters.
  module _ {V : Type 0} (Is : V → Type 0) (fields : V → List Field) (v : V) (k : ℕ)
      (few : length (wrapped (longest (fields v))) ≤ limit) (all : List (List ℕ))
      (each : (i : ℕ) → i < 2 ^ k → length (slice_index_or all i []) ≤ length (longest (fields v)))
      (a : AreAll (λ E. E) Is fields v k all) where
    wrapped_at : (i : ℕ) → i < 2 ^ k → slice_index_or (map wrapped all) i [] ≡ wrapped (slice_index_or all i [])
    wrapped_at i h = get_or-map wrapped all i [] [] (omega (arith, a.count))

    wrapped_at_fits : (i : ℕ) → i < 2 ^ k → length (wrapped (slice_index_or all i [])) ≤ limit
    wrapped_at_fits i h =
        let g = wrapped_grows (slice_index_or all i []) (longest (fields v)) (each i h) few in omega (arith, each i h, few)

    wrapped_at_encodes : (E : V → List ℕ → Type 0) (i : ℕ) → i < 2 ^ k → E v (slice_index_or all i [])
        → AlgorithmEncoding oid E v (slice_index_or (map wrapped all) i [])
    wrapped_at_encodes E i h e = subst (AlgorithmEncoding oid E v) (sym (wrapped_at i h))
        (wrapped_at_fits i h, slice_index_or all i [], e, refl)

    -- They are all, in the same order.
    pub are_all_in : AreAll (AlgorithmEncoding oid) Is fields v k (map wrapped all)
    are_all_in = record {
      count = length-map all wrapped ∙ a.count;
      under = λ i h. wrapped_at_encodes (SequenceOf Is fields (FieldsUnder i)) i h (a.under i h);
      different =
          λ i j h n e. a.different i j h n
          (wrapped_one (slice_index_or all i []) (slice_index_or all j []) (wrapped_at_fits i h)
          (sym (wrapped_at i h) ∙ e ∙ wrapped_at j n));
      every = λ bytes. (
        λ (within, y, e, same). let (i, h, is) = (a.every y).0 e in (i, h, wrapped_at i h ∙ ap wrapped is ∙ sym same),
        λ (i, h, is). subst (AlgorithmEncoding oid (SequenceOf Is fields Fields) v) is
            (wrapped_at_encodes (SequenceOf Is fields Fields) i h ((a.every (slice_index_or all i [])).1 (i, h, refl))),
      );
    }
