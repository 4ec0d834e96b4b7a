-- `read_params`: what reading the slice gives, strictly (`strictly`) or not (`lax`), decodes it.
use Rattle.std.proofs.Common.{Ok, if◌then◌else◌, rules}
use Rattle.der_core.specs.Words.{are_bytes}
use Rattle.spki_core.specs.Words.{record_whole, strict_whole}
use Rattle.pkcs1_params.specs.Words.{AnswersAsn1}
use Rattle.pkcs1_params.proofs.WholeParameters.{record_whole_decodes, strict_whole_decodes}
use Rattle.pkcs1_params.proofs.reading.read_params.Goals as goal

pub returns-in_err-read_slice-clause-read : goal.returns-in_err-read_slice-clause-read
returns-in_err-read_slice-clause-read g c lax =
    let t = g.T.AlgorithmParams in
    let exact : AnswersAsn1 t.params ((if c.args.strict then strict_whole t.form else record_whole t.form)
    c.args.bytes.now) c.from_residual.result = search rules in
    record_whole_decodes t.form _ t.params _ (are_bytes c.args.bytes.now (search rules)) (rw lax at exact)

pub returns-in_err-read_slice-clause-shortest : goal.returns-in_err-read_slice-clause-shortest
returns-in_err-read_slice-clause-shortest g c strictly =
    let t = g.T.AlgorithmParams in
    let exact : AnswersAsn1 t.params ((if c.args.strict then strict_whole t.form else record_whole t.form)
    c.args.bytes.now) c.from_residual.result = search rules in
    strict_whole_decodes t.form _ t.params _ (are_bytes c.args.bytes.now (search rules)) (rw strictly at exact)

pub returns-clause-read : goal.returns-clause-read
returns-clause-read g c lax =
    let t = g.T.AlgorithmParams in
    record_whole_decodes t.form _ t.params (Ok c.in_ok-read_slice.field-0) (are_bytes c.args.bytes.now (search rules))
    (rw lax at c.in_ok-read_slice.ensures)

pub returns-clause-shortest : goal.returns-clause-shortest
returns-clause-shortest g c strictly =
    let t = g.T.AlgorithmParams in
    strict_whole_decodes t.form _ t.params (Ok c.in_ok-read_slice.field-0) (are_bytes c.args.bytes.now (search rules))
    (rw strictly at c.in_ok-read_slice.ensures)
