-- `is_strict` of `Parameters` for `RsaPssParamsRef`. `from_der_strict` is `Ok` exactly if the bytes are the shortest
-- encoding of some parameters.
use Rattle.pkcs1_params.specs.Words.{pss_of}
use Rattle.standard.specs.Statement.{IsShortest, PssEncoding}
use Rattle.pkcs1_program.proofs.Verdicts.{read_is_ok}
use Rattle.pkcs1_program.proofs.parameter_text.RsaPssParamsRefParameters.is_strict.Goals as goal

pub returns : goal.returns
returns c =
    rw c.is_ok.ensures.value
    (read_is_ok (IsShortest PssEncoding) c.args.encoding.now pss_of _ c.from_der_strict.ensures.read)
