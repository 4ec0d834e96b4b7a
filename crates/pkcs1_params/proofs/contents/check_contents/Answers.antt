-- `check_contents`: the spelling is valid, as the parameters are.
use Rattle.pkcs1_params.proofs.Masks.{record_is_spelled}
use Rattle.pkcs1_params.proofs.contents.check_contents.Goals as goal

pub returns-clause-checks : goal.returns-clause-checks
returns-clause-checks g c =
    let t = g.T.EncodeParams in
    record_is_spelled t.form (t.params c.args.params) c.args._mask c.lemma_is_valid.ensures
