-- `Spelling::to_vec`: `write_over` asks for a valid spelling, which each one of parameters is that may be encoded.
use Rattle.pkcs1_params.proofs.Masks.{record_is_spelled}
use Rattle.pkcs1_params.proofs.spelling.Spelling.to_vec.Goals as goal

pub write_over-requires-clause-has : goal.write_over-requires-clause-has
write_over-requires-clause-has g c =
    let t = g.T.EncodeParams in
    let s = c.args.self.now in
    record_is_spelled t.form (t.params s.params) s.mask c.lemma_is_valid.ensures
