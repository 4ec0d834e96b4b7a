-- `encode_params`: what `encode_spelling_into` promises of mask 0 is so of the shortest encoding.
use Rattle.std.proofs.Common.{length}
use Rattle.der_core.specs.Words.{ok_of}
use Rattle.pkcs1_params.proofs.Masks.{zero_encodes, zero_mask, zero_refuses}
use Rattle.pkcs1_params.proofs.Faults.{if_err_as}
use Rattle.pkcs1_params.proofs.spelling.EncodeParams.encode_params.Goals as goal

-- 0 is a mask of all parameters.
pub encode_spelling_into-requires : goal.encode_spelling_into-requires
encode_spelling_into-requires g c = let t = g.Self.EncodeParams in zero_mask t.form (t.params c.args.self)

-- What is written under mask 0 is the shortest of all encodings.
pub returns-clause-written : goal.returns-clause-written
returns-clause-written g c =
    let t = g.Self.EncodeParams in
    zero_encodes t.form (t.params c.args.self) c.args.out.now _ (ok_of (λ n. n) c.encode_spelling_into.result)
    c.encode_spelling_into.ensures.written

-- Where nothing is written under mask 0, the reason is one of all encodings, as the others are longer.
pub returns-clause-err : goal.returns-clause-err
returns-clause-err g c =
    let t = g.Self.EncodeParams in
    if_err_as c.encode_spelling_into.result (λ e. zero_refuses t.form (t.params c.args.self) (length c.args.out.now) e)
    c.encode_spelling_into.ensures.err
