-- An encoding stands under a mask. Either that is 0, or its lowest bit is that of the first default that is written.
use Rattle.std.proofs.Common.{ℕ, List, [], ◌∷◌, ◌+◌, ◌≡◌, ◌⊎◌, refl, subst, arith, inl, inr, ⊎_elim}
use Rattle.spki_core.specs.Words.{FieldRecord}
use Rattle.pkcs1_params.specs.Words.{FirstWritten, HasFirstWritten, oaep_record, pss_record}
use Rattle.pkcs1_params.proofs.Masks.{each_has_one_mask, shortest_has_no_defaults}
use Rattle.standard.specs.Statement.{Field, Fields, FieldsUnder}
use Rattle.pkcs1_params.proofs.laws.lemma_written_defaults_are_found.Goals as goal

under_fields : (mask : ℕ) (fs : List Field) (c : List ℕ) → FieldsUnder mask fs c → Fields fs c
under_fields mask [] c u = u.0
under_fields mask (f ∷ fs) c (inl (d, half, m, u)) = inl (d, under_fields half fs c u)
under_fields mask (f ∷ fs) c (inr (inl (d, half, m, later, is, u))) = inr (later, is, under_fields half fs later u)
under_fields mask (f ∷ fs) c (inr (inr (nd, later, is, u))) = inr (later, is, under_fields mask fs later u)

first_or_zero : (mask : ℕ) (fs : List Field) (c : List ℕ) → FieldsUnder mask fs c
    → (mask ≡ 0) ⊎ ((n : ℕ) × FirstWritten fs n c)
first_or_zero mask [] c u = inl u.1
first_or_zero mask (f ∷ fs) c (inl (d, half, m, u)) =
    ⊎_elim (λ z. inl (omega (arith, m, z))) (λ w. inr (w.0 + 1, inr (inl (d, w.0, refl, w.1)))) (first_or_zero half fs c u)
first_or_zero mask (f ∷ fs) c (inr (inl (d, half, m, later, is, u))) =
    inr (0, inl (d, refl, later, is, under_fields half fs later u))
first_or_zero mask (f ∷ fs) c (inr (inr (nd, later, is, u))) =
    ⊎_elim (λ z. inl z) (λ w. inr (w.0 + 1, inr (inr (nd, w.0, refl, later, is, w.1)))) (first_or_zero mask fs later u)

module _ {V : Type 0} {Is : V → Type 0} {fields : V → List Field} (r : FieldRecord Is fields) where
  first_found : HasFirstWritten Is fields
  first_found v bytes p =
      let (mask, in_range, under, only) = each_has_one_mask r v bytes p in
      let (ok, few, contents, holds, same) = under in
      ⊎_elim
      (λ z. inl ((shortest_has_no_defaults r v bytes).0
      (ok, few, contents, subst (λ m. FieldsUnder m (fields v) contents) z holds, same)))
      (λ w. inr (w.0, contents, same, w.1)) (first_or_zero mask (fields v) contents holds)

pub returns : goal.returns
returns c = record {
  pss = first_found pss_record;
  oaep = first_found oaep_record;
}
