-- `from_c_oaep`: its error is that of the first field of the struct that can't be held.
use Rattle.std.proofs.Common.{rules}
use Rattle.pkcs1_c.proofs.HeldParameters.{plain_has_no_status, mask_has_no_status}
use Rattle.pkcs1_c.proofs.oaep.from_c_oaep.Goals as goal

-- At the `?` behind `from_c_mask_gen`: the hash function in front, `field-0`, can be held.
pub returns-in_err-from_c_mask_gen-clause-err : goal.returns-in_err-from_c_mask_gen-clause-err
returns-in_err-from_c_mask_gen-clause-err c =
    let hash = plain_has_no_status c.in_ok-from_c_algorithm.field-0 _ c.in_ok-from_c_algorithm.ensures.ok in
    search rules

-- At the `?` behind the second `from_c_algorithm`, that of `p_source`: both fields in front can be held.
pub returns-in_err-from_c_algorithm-2-clause-err : goal.returns-in_err-from_c_algorithm-2-clause-err
returns-in_err-from_c_algorithm-2-clause-err c =
    let hash = plain_has_no_status c.in_ok-from_c_algorithm.field-0 _ c.in_ok-from_c_algorithm.ensures.ok in
    let mask = mask_has_no_status c.in_ok-from_c_mask_gen.field-0 _ c.in_ok-from_c_mask_gen.ensures.ok in
    search rules
