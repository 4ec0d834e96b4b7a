-- `pkcs1_c_pss_algorithm_decode_strict`: the struct holds the parameters, or the status is that of the first fault.
use Rattle.pkcs1_params.specs.Words.{pss_record}
use Rattle.pkcs1_params.proofs.Faults.{strictly_tells, whole_algorithm_tells}
use Rattle.standard.specs.Statement.{IsShortest, PssAlgorithmEncoding, id_rsassa_pss}
use Rattle.pkcs1_c.proofs.Writes.{decodes_equal_value, status_exact}
use Rattle.pkcs1_c.proofs.pss_algorithm.pkcs1_c_pss_algorithm_decode_strict.Goals as goal

-- `to_c_pss` says that the struct holds what was read.
pub returns-in-Ok-clause-ok : goal.returns-in-Ok-clause-ok
returns-in-Ok-clause-ok c = λ _.
    decodes_equal_value (IsShortest PssAlgorithmEncoding) c.to_c_pss.ensures.seen c.in-Ok.ensures.read

-- The status is the number of the error. Each fault of the identifier, or of strict reading of the parameters in it, is
-- about the bytes, so it is neither 0 nor above 14.
pub returns-in-Err-clause-exact : goal.returns-in-Err-clause-exact
returns-in-Err-clause-exact c =
    status_exact _ (whole_algorithm_tells (strictly_tells pss_record) id_rsassa_pss _) c.in-Err.error _ c.status.ensures
    c.in-Err.ensures.exact
