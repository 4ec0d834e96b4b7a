-- `from_c_mask_gen`, at the `?` behind `from_c_algorithm`, that of the hash function: the identifier in front can be
-- held.
use Rattle.std.proofs.Common.{rules}
use Rattle.pkcs1_c.proofs.HeldParameters.{oid_has_no_status}
use Rattle.pkcs1_c.proofs.algorithm.from_c_mask_gen.Goals as goal

pub returns-in_err-from_c_algorithm-clause-err : goal.returns-in_err-from_c_algorithm-clause-err
returns-in_err-from_c_algorithm-clause-err c =
    let none = oid_has_no_status c.in_ok-oid.oid _ c.in_ok-oid.ensures.ok in search rules
