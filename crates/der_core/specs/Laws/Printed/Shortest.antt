-- What is written is the shortest: each other spelling of the value is longer. This goes through rows, tags, lists.
use Rattle.std.proofs.Common.{ℕ, List, [], ◌∷◌, ◌≡◌, ◌<◌, ◌≤◌, ◌⊎◌, length, map, refl, sym, subst, ap, ◌∙◌, arith, inl, inr, length-append, Option, Some, None, option_map}
use Rattle.std.specs.List.{AllByRecursion, concat}
use Rattle.der_core.specs.Laws.Printed.Leaves.{octets_grow, tlv_fit}
use Rattle.der_core.specs.Length.{limit}
use Rattle.der_core.specs.Printed.{Spells, WritesShortest, row}
use Rattle.standard.specs.Statement.{IfPresent, IsShortest, length_octets, optional, tlv}

-- A type whose values have one spelling each.
pub one_spelling_shortest : {V : Type 0} (Is : V → Type 0) (printed : V → List ℕ)
    → WritesShortest Is printed (λ v. v) (λ v. v)
one_spelling_shortest Is printed = record { back = λ v. refl; valid = λ s ok. ok; least = λ s ok few. inl refl }

module _ {S V T W : Type 0} {IsA : S → Type 0} {IsB : T → Type 0} {first : S → List ℕ} {rest : T → List ℕ}
    {meansA : S → V} {meansB : T → W} {writtenA : V → S} {writtenB : W → T}
    (a : WritesShortest IsA first meansA writtenA) (b : WritesShortest IsB rest meansB writtenB) where
  pub row_shortest : WritesShortest (λ s. IsA s.0 × IsB s.1) (row first rest)
      (λ s. let v : V × W = (meansA s.0, meansB s.1) in v) (λ v. let s : S × T = (writtenA v.0, writtenB v.1) in s)
  row_shortest = record {
    back = λ v i. (a.back v.0 i, b.back v.1 i);
    valid = λ s ok. (a.valid s.0 ok.0, b.valid s.1 ok.1);
    least = λ s ok few.
        let both = length-append (first s.0) (rest s.1) in
        let new = length-append (first (writtenA (meansA s.0))) (rest (writtenB (meansB s.1))) in
        elim (a.least s.0 ok.0 (omega (arith, few, both))) [
          | inl e ↦ elim (b.least s.1 ok.1 (omega (arith, few, both))) [
            | inl f ↦ inl (λ i. (e i, f i))
            | inr m ↦ inr (omega (arith, both, new, m, ap (λ x. length (first x)) e))
          ]
          | inr l ↦ elim (b.least s.1 ok.1 (omega (arith, few, both))) [
            | inl f ↦ inr (omega (arith, both, new, l, ap (λ x. length (rest x)) f))
            | inr m ↦ inr (omega (arith, both, new, l, m))
          ]
        ];
  }

module _ {S V : Type 0} {Is : S → Type 0} {printed : S → List ℕ} {means : S → V} {written : V → S}
    (law : WritesShortest Is printed means written) where
  pub tagged_shortest : (tag : ℕ) → WritesShortest Is (λ s. tlv tag (printed s)) means written
  tagged_shortest tag = record {
    back = law.back;
    valid = law.valid;
    least = λ s ok few.
        let within : length (printed s) ≤ limit = omega (arith, few, tlv_fit tag (printed s)) in
        elim (law.least s ok within) [
          | inl e ↦ inl e
          | inr l ↦ let g = octets_grow (length (printed (written (means s)))) (length (printed s)) (omega (arith, l))
              within in
              inr (omega (
                arith,
                l,
                g,
                length-append (length_octets (length (printed s))) (printed s),
                length-append (length_octets (length (printed (written (means s))))) (printed (written (means s))),
              ))
        ];
  }

  -- What a writer promises of what it wrote.
  pub written_is_shortest : (v : V) → Is (written v) → length (printed (written v)) ≤ limit
      → IsShortest (Spells Is printed means) v (printed (written v))
  written_is_shortest v ok few = (
    (few, (written v, law.back v, ok, refl)),
    λ other q.
        let (within, (s, e, valid, is)) = q in
        elim (law.least s valid (omega (arith, within, ap length is))) [
          | inl f ↦ inl (is ∙ ap printed (f ∙ ap written e))
          | inr l ↦ inr (omega (arith, l, ap length is, ap (λ u. length (printed (written u))) e))
        ],
  )

-- Values that are held by a record of another form.
module _ {S V W : Type 0} {Is : S → Type 0} {printed : S → List ℕ} {means : S → V} {written : V → S}
    (law : WritesShortest Is printed means written) (join : V → W) (split : W → V)
    (there : (v : V) → split (join v) ≡ v) (again : (w : W) → join (split w) ≡ w) where
  pub joined_shortest : WritesShortest Is printed (λ s. join (means s)) (λ w. written (split w))
  joined_shortest = record {
    back = λ w. ap join (law.back (split w)) ∙ again w;
    valid = λ s ok. subst (λ v. Is (written v)) (sym (there (means s))) (law.valid s ok);
    least = λ s ok few.
        subst (λ v. (s ≡ written v) ⊎ (length (printed (written v)) < length (printed s))) (sym (there (means s)))
        (law.least s ok few);
  }

-- Spellings that are made of others, and back.
module _ {S T V W : Type 0} {Is : S → Type 0} {printed : S → List ℕ} {means : S → V} {written : V → S}
    (law : WritesShortest Is printed means written) (make : S → T) (back : T → S)
    (there : (s : S) → back (make s) ≡ s) (again : (t : T) → make (back t) ≡ t) (join : V → W) (split : W → V)
    (parted : (v : V) → split (join v) ≡ v) (whole : (w : W) → join (split w) ≡ w) where
  pub made_shortest : WritesShortest (λ t. Is (back t)) (λ t. printed (back t)) (λ t. join (means (back t)))
      (λ w. make (written (split w)))
  made_shortest = record {
    back = λ w. ap (λ s. join (means s)) (there (written (split w))) ∙ ap join (law.back (split w)) ∙ whole w;
    valid = λ t ok.
        subst Is (sym (there (written (split (join (means (back t)))))))
        (subst (λ v. Is (written v)) (sym (parted (means (back t)))) (law.valid (back t) ok));
    least = λ t ok few.
        let same : back (make (written (split (join (means (back t)))))) ≡ written (means (back t)) =
        there (written (split (join (means (back t))))) ∙ ap written (parted (means (back t))) in
        elim (law.least (back t) ok few) [
          | inl e ↦ inl (sym (again t) ∙ ap make (e ∙ ap written (sym (parted (means (back t))))))
          | inr l ↦ inr (omega (arith, l, ap (λ s. length (printed s)) same))
        ];
  }

-- A part that is there or not.
module _ {S V : Type 0} {Is : S → Type 0} {printed : S → List ℕ} {means : S → V} {written : V → S}
    (law : WritesShortest Is printed means written) where
  pub last_shortest : WritesShortest (IfPresent Is) (optional printed) (option_map means) (option_map written)
  last_shortest = record { back = back; valid = valid; least = least }
    where
      back : (v : Option V) → option_map means (option_map written v) ≡ v
      back None = refl
      back (Some v) = ap (λ x. Some x) (law.back v)

      valid : (s : Option S) → IfPresent Is s → IfPresent Is (option_map written (option_map means s))
      valid None ok = tt
      valid (Some s) ok = law.valid s ok

      least : (s : Option S) → IfPresent Is s → length (optional printed s) ≤ limit
          → (s ≡ option_map written (option_map means s))
          ⊎ (length (optional printed (option_map written (option_map means s))) < length (optional printed s))
      least None ok few = inl refl
      least (Some s) ok few = elim (law.least s ok few) [
        | inl e ↦ inl (ap (λ x. Some x) e)
        | inr l ↦ inr l
      ]

-- A list.
module _ {S V : Type 0} {Is : S → Type 0} {printed : S → List ℕ} {means : S → V} {written : V → S}
    (law : WritesShortest Is printed means written) where
  abbrev list_printed : List S → List ℕ
  list_printed ss = concat (map printed ss)

  abbrev ListIsLeast : List S → List S → Type 0
  ListIsLeast ss other = (ss ≡ other) ⊎ (length (list_printed other) < length (list_printed ss))

  pub list_shortest : WritesShortest (AllByRecursion Is) (λ ss. concat (map printed ss)) (map means) (map written)
  list_shortest = record { back = back; valid = valid; least = least }
    where
      back : (vs : List V) → map means (map written vs) ≡ vs
      back [] = refl
      back (v ∷ vs) = λ i. law.back v i ∷ back vs i

      valid : (ss : List S) → AllByRecursion Is ss → AllByRecursion Is (map written (map means ss))
      valid [] ok = tt
      valid (s ∷ ss) ok = (law.valid s ok.0, valid ss ok.1)

      least : (ss : List S) → AllByRecursion Is ss → length (list_printed ss) ≤ limit
          → ListIsLeast ss (map written (map means ss))
      least [] ok few = inl refl
      least (s ∷ ss) ok few =
          let both = length-append (printed s) (list_printed ss) in
          let new = length-append (printed (written (means s))) (list_printed (map written (map means ss))) in
          elim (law.least s ok.0 (omega (arith, few, both))) [
            | inl e ↦ elim (least ss ok.1 (omega (arith, few, both))) [
              | inl f ↦ inl (λ i. e i ∷ f i)
              | inr m ↦ inr (omega (arith, both, new, m, ap (λ x. length (printed x)) e))
            ]
            | inr l ↦ elim (least ss ok.1 (omega (arith, few, both))) [
              | inl f ↦ inr (omega (arith, both, new, l, ap (λ x. length (list_printed x)) f))
              | inr m ↦ inr (omega (arith, both, new, l, m))
            ]
          ]

-- No encoding is empty.
pub tagged_some : {S : Type 0} (printed : S → List ℕ) (tag : ℕ) → (s : S) → 0 < length (tlv tag (printed s))
tagged_some printed tag s = omega arith
