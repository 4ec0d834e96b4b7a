-- `encode_spelling_into`: what `encode_into` promises of the spelling is so of the parameters' encoding under the mask.
use Rattle.std.proofs.Common.{ℕ, length, Ok, Err, Some, None}
use Rattle.der_core.specs.Words.{err_from_is_err_and}
use Rattle.der_core.proofs.Writing.{encode_into_encodes, encode_into_unwritten}
use Rattle.spki_core.specs.Words.{record_under}
use Rattle.pkcs1_params.specs.declared.error.Error.TheVariants as error
use Rattle.pkcs1_params.proofs.Masks.{mask_in_range, spelling_written, under_encodes, under_refuses}
use Rattle.pkcs1_params.proofs.spelling.EncodeParams.encode_spelling_into.Goals as goal

-- The `ghost range` and `ghost known` of the `Spelling` that is made: its mask is one of these parameters', and
-- `non_defaults` is what `non_defaults_in` returned.
pub invariant_of-spelling : goal.invariant_of-spelling
invariant_of-spelling g c =
    let t = g.Self.EncodeParams in
    record {
      range = mask_in_range t.form (t.params c.args.self) c.args.mask c.requires;
      known = c.non_defaults_in.ensures;
    }

-- At the `?` behind `encode_into`, whose error is `field-0.0`. `told` has that the slice is as it was, and the reason.
-- Both are so of the parameters, whose only encoding under the mask is the spelling's. `p` is that `?` hands the error
-- on, as `Asn1`.
pub returns-in_err-encode_into : goal.returns-in_err-encode_into
returns-in_err-encode_into g c =
    let p = err_from_is_err_and c.from_residual.result c.from_residual.ensures.1 in
    let t = g.Self.EncodeParams in
    let v = t.params c.args.self in
    let told = c.in_err-encode_into.ensures in record {
      written =
          rw p.1
          (under_encodes t.form v c.lemma_is_valid.ensures c.args.mask c.requires c.args.out.now c.encode_into.new.out
          None
          (encode_into_encodes (spelling_written t.form) (record_under t.form c.args.mask v) c.args.out.now _
          (Err c.in_err-encode_into.field-0.0) tt tt told.err told.unchanged c.encode_into.auto.out));
      err =
          rw (p.1, p.2)
          (under_refuses t.form v c.lemma_is_valid.ensures c.args.mask c.requires (length c.args.out.now)
          (error.Asn1 c.in_err-encode_into.field-0.0)
          (encode_into_unwritten (spelling_written t.form) (record_under t.form c.args.mask v) {X = ℕ} _
          (Err c.in_err-encode_into.field-0.0) told.err));
    }

-- At the end: `encode_into` wrote the encoding of the spelling (`made`), and `field-0` is its length.
pub returns-clause-written : goal.returns-clause-written
returns-clause-written g c =
    let t = g.Self.EncodeParams in
    let v = t.params c.args.self in
    let made = c.in_ok-encode_into.ensures in
    under_encodes t.form v c.lemma_is_valid.ensures c.args.mask c.requires c.args.out.now c.encode_into.new.out
    (Some c.in_ok-encode_into.field-0)
    (encode_into_encodes (spelling_written t.form) (record_under t.form c.args.mask v) c.args.out.now _
    (Ok c.in_ok-encode_into.field-0) made.ok made.shortest tt tt c.encode_into.auto.out)
