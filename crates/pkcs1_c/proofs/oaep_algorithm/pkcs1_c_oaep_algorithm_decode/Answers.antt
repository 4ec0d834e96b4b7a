-- `pkcs1_c_oaep_algorithm_decode`: the struct holds the parameters, or the status is that of the first fault.
use Rattle.spki_core.specs.Words.{record_reads}
use Rattle.pkcs1_params.specs.Words.{oaep_record}
use Rattle.pkcs1_params.proofs.Faults.{whole_algorithm_tells}
use Rattle.standard.specs.Statement.{OaepAlgorithmEncoding, id_rsaes_oaep}
use Rattle.pkcs1_c.proofs.Writes.{decodes_equal_value, status_exact}
use Rattle.pkcs1_c.proofs.oaep_algorithm.pkcs1_c_oaep_algorithm_decode.Goals as goal

-- `to_c_oaep` says that the struct holds what was read.
pub returns-in-Ok-clause-ok : goal.returns-in-Ok-clause-ok
returns-in-Ok-clause-ok c = λ _. decodes_equal_value OaepAlgorithmEncoding c.to_c_oaep.ensures.seen c.in-Ok.ensures.read

-- The status is the number of the error. Each fault of the identifier, or of the parameters in it, is about the bytes,
-- so it is neither 0 nor above 14.
pub returns-in-Err-clause-exact : goal.returns-in-Err-clause-exact
returns-in-Err-clause-exact c =
    status_exact _ (whole_algorithm_tells (record_reads oaep_record).tells id_rsaes_oaep _) c.in-Err.error _
    c.status.ensures
    c.in-Err.ensures.exact
