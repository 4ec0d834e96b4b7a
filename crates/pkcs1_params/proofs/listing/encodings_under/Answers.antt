-- `encodings_under` lists the encoding under each mask, in order, and fails only for want of memory.
use Rattle.std.proofs.Common.{ℕ, List, [], ◌∷◌, ◌++◌, ◌<◌, ◌^◌, ◌∙◌, map, subst, sym, ap, inl, inr, arith}
use Rattle.std.specs.Global.{Vec}
use Rattle.std.proofs.lemmas.List.{map-append}
use Rattle.der_core.specs.Words.{err_from_is_err_and}
use Rattle.spki_core.specs.Words.{upto}
use Rattle.spki_core.proofs.RecordEncodings.{default_count_only, encoding_under, encoding_under_fits, upto_more}
use Rattle.pkcs1_params.proofs.listing.encodings_under.Goals as goal

-- The `ghost range` and `ghost known` of the `Spelling` that is made: its mask is below `count`, which is the number of
-- masks.
pub invariant_of-spelling : goal.invariant_of-spelling
invariant_of-spelling g c =
    let t = g.T.EncodeParams in
    let v = t.params c.args.params in
    record {
      range = λ k d. subst (λ n. c.loop-mask.mask < n)
          (c.requires.masks ∙ ap (λ n. 2 ^ n) (sym (default_count_only t.form v k d)))
          c.loop-mask-test.true;
      known = c.requires.non_defaults;
    }

-- At the `?` behind `to_vec`: there was no memory. The encoding isn't too long (`long`), as the longest fits. `e` is
-- that `?` hands the error on.
pub returns-in_err-to_vec-clause-err : goal.returns-in_err-to_vec-clause-err
returns-in_err-to_vec-clause-err g c =
    let t = g.T.EncodeParams in
    let e = err_from_is_err_and c.from_residual.result c.from_residual.ensures.1 in
    rw (e.1, e.2) (elim c.in_err-to_vec.ensures.err [
      | inl memory ↦ memory
      | inr long ↦
          let few = encoding_under_fits t.form (t.params c.args.params) c.loop-mask.mask c.requires.fit in
          absurd (omega arith)
    ])

-- The encoding under this mask is pushed behind those under the lower ones.
pub loop-mask-preserved : goal.loop-mask-preserved
loop-mask-preserved g c =
    let t = g.T.EncodeParams in
    let v = t.params c.args.params in
    let item : Vec ℕ → List ℕ = λ encoding. encoding.items in
    ap (map item) c.in_ok-push.ensures.items ∙ map-append item c.loop-mask.encodings.items (c.in_ok-to_vec.field-0 ∷ [])
    ∙ ap (λ xs. xs ++ c.in_ok-to_vec.field-0.items ∷ []) c.loop-mask.invariant
    ∙ ap (λ x. upto c.loop-mask.mask (encoding_under t.form v) ++ x ∷ []) c.in_ok-to_vec.ensures.ok
    ∙ sym (upto_more c.loop-mask.mask (encoding_under t.form v))
