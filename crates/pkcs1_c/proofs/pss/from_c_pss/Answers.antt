-- `from_c_pss`: its error is that of the first field of the struct that can't be held.
use Rattle.std.proofs.Common.{ap, inr, rules}
use Rattle.pkcs1_c.specs.Words.{kind_number}
use Rattle.pkcs1_c.proofs.HeldParameters.{plain_has_no_status, mask_has_no_status}
use Rattle.pkcs1_c.proofs.pss.from_c_pss.Goals as goal

-- At the `?` behind `from_c_mask_gen`: the hash function in front can be held.
pub returns-in_err-mask_gen-clause-err : goal.returns-in_err-mask_gen-clause-err
returns-in_err-mask_gen-clause-err c =
    let hash = plain_has_no_status c.in_ok-hash.hash _ c.in_ok-hash.ensures.ok in
    search rules

-- The trailer field isn't 1, which has the status of `Value`. Both fields in front can be held.
pub returns-then-params-ne1-clause-err : goal.returns-then-params-ne1-clause-err
returns-then-params-ne1-clause-err c =
    let hash = plain_has_no_status c.in_ok-hash.hash _ c.in_ok-hash.ensures.ok in
    let mask = mask_has_no_status c.in_ok-mask_gen.mask_gen _ c.in_ok-mask_gen.ensures.ok in
    inr (hash, inr (mask, (ap (λ e. kind_number e.kind) c.new.ensures, c.if-params-ne1.true)))
