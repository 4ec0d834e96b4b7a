-- `from_c_algorithm`: its error is that of the first part of the struct that can't be held.
use Rattle.std.proofs.Common.{rules}
use Rattle.pkcs1_c.proofs.HeldParameters.{oid_has_no_status}
use Rattle.pkcs1_c.proofs.algorithm.from_c_algorithm.Goals as goal

-- At the `?` behind `Tag::from_octet`: the octet isn't allowed. The identifier in front can be held.
pub returns-in_err-tag-clause-err : goal.returns-in_err-tag-clause-err
returns-in_err-tag-clause-err c =
    let none = oid_has_no_status c.in_ok-oid.oid _ c.in_ok-oid.ensures.ok in
    search rules

-- At the `?` behind `AnyRef::new`: the contents are longer than the limit. The identifier and the tag in front can be
-- held.
pub returns-in_err-new-clause-err : goal.returns-in_err-new-clause-err
returns-in_err-new-clause-err c =
    let none = oid_has_no_status c.in_ok-oid.oid _ c.in_ok-oid.ensures.ok in
    search rules
