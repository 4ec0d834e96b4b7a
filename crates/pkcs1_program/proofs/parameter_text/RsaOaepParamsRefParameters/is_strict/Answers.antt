-- `is_strict` of `Parameters` for `RsaOaepParamsRef`. `from_der_strict` is `Ok` exactly if the bytes are the shortest
-- encoding of some parameters.
use Rattle.pkcs1_params.specs.Words.{oaep_of}
use Rattle.standard.specs.Statement.{IsShortest, OaepEncoding}
use Rattle.pkcs1_program.proofs.Verdicts.{read_is_ok}
use Rattle.pkcs1_program.proofs.parameter_text.RsaOaepParamsRefParameters.is_strict.Goals as goal

pub returns : goal.returns
returns c =
    rw c.is_ok.ensures.value
    (read_is_ok (IsShortest OaepEncoding) c.args.encoding.now oaep_of _ c.from_der_strict.ensures.read)
