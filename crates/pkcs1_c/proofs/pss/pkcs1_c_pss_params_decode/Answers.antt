-- `pkcs1_c_pss_params_decode`: the struct holds the parameters, or the status is that of the first fault.
use Rattle.pkcs1_params.specs.Words.{pss_record}
use Rattle.standard.specs.Statement.{PssEncoding}
use Rattle.pkcs1_c.proofs.Writes.{decodes_equal_value, status_exact}
use Rattle.pkcs1_c.proofs.HeldParameters.{record_tells}
use Rattle.pkcs1_c.proofs.pss.pkcs1_c_pss_params_decode.Goals as goal

-- `to_c_pss` says that the struct holds what was read.
pub returns-in-Ok-clause-ok : goal.returns-in-Ok-clause-ok
returns-in-Ok-clause-ok c = λ _. decodes_equal_value PssEncoding c.to_c_pss.ensures.seen c.in-Ok.ensures.read

-- The status is the number of the error. Each fault of parameters is about the bytes, so it is neither 0 nor above 14.
pub returns-in-Err-clause-exact : goal.returns-in-Err-clause-exact
returns-in-Err-clause-exact c =
    status_exact _ (record_tells pss_record _) c.in-Err.error _ c.status.ensures c.in-Err.ensures.exact
