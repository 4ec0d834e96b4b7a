-- The functions read the grammars of fields, and nothing else.
use Rattle.std.proofs.Common.{ℕ, true, false, List, ◌++◌, ◌≡◌, ◌≤◌, refl, sym, ap, ◌∙◌, inl, inr, subst, ⊎_elim, Ok, Err, IsTrue, arith}
use Rattle.der_core.specs.declared.error.ErrorKind.TheVariants.{TagUnknown}
use Rattle.der_core.specs.declared.tag.Tag.{Tag}
use Rattle.der_core.specs.Words.{ok_pair, cond_cases, tlv_front_is_next, is_next_false, is_next_true, is_next_false_only, alone_reads, checked_as, tagged_reads, same_tag, FrontReading, alone, is_next, tagged, ReadsBy, ReadsFronts, context_octet, is_allowed, Tlv}
use Rattle.spki_core.specs.Explicit.{FieldRead}
use Rattle.spki_core.specs.Readings.{defaulted, explicit}

pub explicit_is : {V : Type 0} (at : FrontReading V) (n : ℕ) (tag : Tag) (bytes : List ℕ) → tag.octet ≡ context_octet n
    → explicit n at bytes ≡ tagged tag (alone at) bytes
explicit_is at n tag bytes is =
    let ok : is_allowed (context_octet n) ≡ true = ap is_allowed (sym is) ∙ tag.allowed in
    let r =
    checked_as (is_allowed (context_octet n))
    (λ ok. tagged (record { octet = context_octet n; allowed = ok }) (alone at) bytes)
    (Err (TagUnknown (context_octet n)))
    ok in
    r.1 ∙ ap (λ t. tagged t (alone at) bytes)
    (same_tag (record { octet = context_octet n; allowed = r.0 }) tag (sym is))

-- The octet of a number up to 30 is allowed.
pub number_allowed : (n : ℕ) → n ≤ 30 → IsTrue (is_allowed (context_octet n))
number_allowed n h = go n h
  where
    go : (n : ℕ) → n ≤ 30 → is_allowed (context_octet n) ≡ true
    go n h = grind arith

module _ {V : Type 0} {encoding : V → List ℕ → Type 0} {at : FrontReading V} (law : ReadsFronts encoding at) (n : ℕ)
    (few : n ≤ 30) where
  pub explicit_reads : ReadsFronts (λ v. Tlv (context_octet n) (encoding v)) (explicit n at)
  explicit_reads =
      let tag : Tag = record { octet = context_octet n; allowed = number_allowed n few } in
      subst (ReadsFronts (λ v. Tlv (context_octet n) (encoding v))) (λ j i. sym (explicit_is at n tag i refl) j)
      (tagged_reads tag (alone_reads law))

  pub defaulted_reads : (default : V) → ReadsBy (FieldRead n encoding default) (defaulted n at default)
  defaulted_reads default = record {
    gives = λ i rest v b e.
        ⊎_elim (λ w. let s = explicit_reads.gives i rest v b w.1 in inr (s.0, rest, s.2, refl, s.1))
        (λ w. let p = ok_pair default v i rest w.1 in
        inl (is_next_false_only (context_octet n) i w.0, sym p.0, sym p.1))
        (cond_cases (is_next (context_octet n) i) _ _ _ e);
    takes = λ i rest v w read. elim read [
      | inl (not_next, value, same) ↦
          let no : is_next (context_octet n) i ≡ false = is_next_false (context_octet n) i not_next in
          rw no (λ j. Ok (sym value j, sym same j))
      | inr (b, more, p, same, split) ↦
          let yes : is_next (context_octet n) i ≡ true =
          is_next_true (context_octet n) i (tlv_front_is_next (context_octet n) b more i p split) in
          rw yes (explicit_reads.takes i b rest v w (split ∙ ap (λ r. b ++ r) same) p)
    ];
    tells = λ i k e.
        ⊎_elim (λ w. explicit_reads.tells i k w.1) (λ w. cc) (cond_cases (is_next (context_octet n) i) _ _ _ e);
  }
