-- `k` is how many fields equal their defaults (`known.count`), and fewer than 8 (`known.few`). So `1u8 << k`, which is
-- `1 * 2 ^ k % 256` here, is two to the k. There are that many masks. `e` is that `?` hands the error on, as `Asn1`.
use Rattle.std.proofs.Common.{ℕ, List, [], ◌≡◌, ◌<◌, ◌≤◌, ◌+◌, ◌-◌, ◌*◌, ◌%◌, ◌^◌, ◌∙◌, length, subst, sym, ap, inl, inr, arith, slice_index_or, pow_pos}
use Rattle.std.proofs.lemmas.Nat.{one_shl}
use Rattle.der_core.specs.Words.{err_from_is_err_and, limit}
use Rattle.spki_core.specs.Words.{FieldRecord, upto}
use Rattle.spki_core.proofs.RecordEncodings.{default_count, default_count_only, default_count_there, encoding_under, encoding_under_fits, encoding_under_zero_shortest, encodings_are_all, full_longest, index_upto}
use Rattle.pkcs1_params.specs.Words.{EncodingOfFields}
use Rattle.pkcs1_params.proofs.Masks.{mask_in_range}
use Rattle.standard.specs.Statement.{AreAll, Defaults, Field, IsShortest, longest}
use Rattle.pkcs1_params.proofs.listing.all_spellings.Goals as goal

-- The greatest mask, `(1 << k) - 1`, is one less than two to the k.
greatest_mask_and_one : (k : ℕ) → k < 8 → 1 * 2 ^ k % 256 - 1 + 1 ≡ 2 ^ k
greatest_mask_and_one k few = omega (arith, one_shl k 8 few, pow_pos k)

-- The encoding under the greatest mask.
module _ {V : Type 0} {Is : V → Type 0} {fields : V → List Field} (r : FieldRecord Is fields) (v : V) (k : ℕ)
    (d : Defaults (fields v) k) (few : k < 8) where
  greatest_mask_longest : encoding_under r v (1 * 2 ^ k % 256 - 1) ≡ longest (fields v)
  greatest_mask_longest =
      full_longest r v (1 * 2 ^ k % 256 - 1)
      (greatest_mask_and_one k few ∙ ap (λ n. 2 ^ n) (default_count_only r v k d))

  -- `count` is the number of masks: two to the number of defaults.
  mask_count_is : 1 * 2 ^ k % 256 ≡ 2 ^ default_count r v
  mask_count_is = one_shl k 8 few ∙ ap (λ n. 2 ^ n) (default_count_only r v k d)

  -- Where `len` counts the encoding under the greatest mask, the longest is within the limit.
  longest_within : (n : ℕ) → (n ≡ length (encoding_under r v (1 * 2 ^ k % 256 - 1))) × (n ≤ limit) → length (longest (fields v)) ≤ limit
  longest_within n p = omega (arith, ap length greatest_mask_longest)

-- The `ghost range` and `ghost known` of the `Spelling` that is made: its mask is one of these parameters', and
-- `non_defaults` is what `non_defaults_in` returned.
pub invariant_of-longest : goal.invariant_of-longest
invariant_of-longest g c =
    let t = g.T.EncodeParams in
    let k = c.count_defaults-count.result in
    let known = c.count_defaults-count.ensures in
    let l = greatest_mask_and_one k known.few in
    record {
      range = mask_in_range t.form (t.params c.args.params) (1 * 2 ^ k % 256 - 1) (k, known.count, omega arith);
      known = c.non_defaults_in-non_defaults.ensures;
    }

-- At the `?` behind `len`: `Overflow`, and the longest encoding passes the limit.
pub returns-in_err-len-clause-err : goal.returns-in_err-len-clause-err
returns-in_err-len-clause-err g c =
    let t = g.T.EncodeParams in
    let known = c.count_defaults-count.ensures in
    let e = err_from_is_err_and c.from_residual.result c.from_residual.ensures.1 in
    let why = c.in_err-len.ensures.err in
    let same = greatest_mask_longest t.form (t.params c.args.params) _ known.count known.few in
    rw (e.1, e.2) (inr (why.0, omega (arith, ap length same)))

-- `encodings_under` asks that `count` is the number of masks, and that the longest encoding is within the limit, which
-- `len` counted.
pub encodings_under-requires : goal.encodings_under-requires
encodings_under-requires g c =
    let t = g.T.EncodeParams in
    let v = t.params c.args.params in
    let known = c.count_defaults-count.ensures in
    record {
      non_defaults = c.non_defaults_in-non_defaults.ensures;
      masks = mask_count_is t.form v _ known.count known.few;
      fit = longest_within t.form v _ known.count known.few _ c.in_ok-len.ensures.ok;
    }

-- At the `?` behind `encodings_under`: `OutOfMemory`, though the longest encoding is within the limit.
pub returns-in_err-encodings_under-clause-err : goal.returns-in_err-encodings_under-clause-err
returns-in_err-encodings_under-clause-err g c =
    let t = g.T.EncodeParams in
    let known = c.count_defaults-count.ensures in
    let e =
    err_from_is_err_and c.from_residual-in_err-encodings_under.result
    c.from_residual-in_err-encodings_under.ensures.1 in
    rw (e.1, e.2) (inl (
      c.in_err-encodings_under.ensures.err,
      longest_within t.form (t.params c.args.params) _ known.count known.few _ c.in_ok-len.ensures.ok,
    ))

-- At the end: the list has the encodings under all masks (`is`), which are all encodings. The first is that under mask
-- 0 (`first`), which is the shortest.
pub returns : goal.returns
returns g c =
    let t = g.T.EncodeParams in
    let v = t.params c.args.params in
    let known = c.count_defaults-count.ensures in
    let fit = longest_within t.form v _ known.count known.few _ c.in_ok-len.ensures.ok in
    let is =
    c.in_ok-encodings_under.ensures.ok
    ∙ ap (λ n. upto n (encoding_under t.form v)) (mask_count_is t.form v _ known.count known.few) in
    let first =
    ap (λ all. slice_index_or all 0 []) is
    ∙ index_upto (2 ^ default_count t.form v) (encoding_under t.form v) [] 0 (pow_pos (default_count t.form v)) in
    record {
      listed = (
        default_count t.form v,
        default_count_there t.form v,
        subst (AreAll (λ E. E) t.Is t.fields_of v (default_count t.form v)) (sym is)
            (encodings_are_all t.form v c.lemma_is_valid.ensures fit),
      );
      shortest =
          subst (IsShortest (EncodingOfFields t.Is t.fields_of) v) (sym first)
          (encoding_under_zero_shortest t.form v c.lemma_is_valid.ensures (encoding_under_fits t.form v 0 fit));
      fit = fit;
      err = tt;
    }
