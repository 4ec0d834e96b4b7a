-- `pkcs1_c_pss_algorithm_encode`: the parameters that the struct holds are written, or the first field is told that
-- can't be held.
use Rattle.std.proofs.Common.{rules}
use Rattle.standard.specs.Statement.{PssAlgorithmEncoding}
use Rattle.pkcs1_c.specs.Words.{PssFieldError, pss_seen}
use Rattle.pkcs1_c.proofs.FittingFields.{pss_fits}
use Rattle.pkcs1_c.proofs.HeldParameters.{pss_has_no_status}
use Rattle.pkcs1_c.proofs.StructErrors.{pss_part}
use Rattle.pkcs1_c.proofs.Writes.{error_behind, fields_rejected}
use Rattle.pkcs1_c.proofs.pss_algorithm.pkcs1_c_pss_algorithm_encode.Goals as goal

-- `from_c_pss` has made what the struct holds, so each field can be held. `write_algorithm` says the rest.
pub returns-in-Ok-clause-exact : goal.returns-in-Ok-clause-exact
returns-in-Ok-clause-exact c =
    let is = c.in-Ok.ensures.ok in
    let none = pss_has_no_status c.in-Ok.made _ is in
    let rest = rw is at c.write_algorithm.ensures.exact in search (rules, error_behind)

-- `from_c_pss` has told which field can't be held. Parameters with an encoding have no such field.
pub returns-in-Err : goal.returns-in-Err
returns-in-Err c =
    let v = pss_seen c.args.params.now in
    let told =
    fields_rejected PssFieldError PssAlgorithmEncoding v (pss_part v) (λ bytes p. pss_fits v p.1 p.2) c.args.out.now c.args.len.now
    c.status.ensures c.in-Err.ensures.err in
    record { writes = told.0; exact = told.1 }
