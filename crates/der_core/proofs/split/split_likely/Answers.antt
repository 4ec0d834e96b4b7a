-- `in-len2-up` is the arm `[first, form, rest @ ..]`. Of `rest`, `in-len1-up` is the arm `[length, left @ ..]`, and
-- `in-len2-up-rest` the arm `[high, low, left @ ..]`. At each exit `split_at_checked` splits off as many octets as the
-- length octets say: these are the contents.
use Rattle.std.proofs.Common.{arith, refl, ◌∙◌}
use Rattle.der_core.proofs.Splitting.{short_found, two_found, three_found}
use Rattle.der_core.proofs.split.split_likely.Goals as goal

-- The length is `form`, which is below 128.
pub returns-then-form-lt128-clause-contents : goal.returns-then-form-lt128-clause-contents
returns-then-form-lt128-clause-contents c =
    short_found _ (λ p. p.0.now) (λ p. p.1.now) c.args.tag _ c.in-len2-up.len_at_least
    (c.if-first-octet.true ∙ c.octet.ensures) c.if-form-lt128.true c.split_at_checked.result
    c.split_at_checked.ensures.cases

-- `form` is 81 in hexadecimal, so the length stands in the one octet behind it.
pub returns-in-len1-up-clause-contents : goal.returns-in-len1-up-clause-contents
returns-in-len1-up-clause-contents c =
    two_found _ (λ p. p.0.now) (λ p. p.1.now) c.args.tag _ _ c.in-len2-up.len_at_least
    (λ i. omega (arith, c.type_inv.bytes i)) (c.if-first-octet.true ∙ c.octet.ensures) refl c.in-len1-up.len_at_least
    c.if-form-2.true c.if-length-ge128.true c.split_at_checked-in-len1-up.result
    c.split_at_checked-in-len1-up.ensures.cases

-- `form` is 82 in hexadecimal, so the length stands in the two octets behind it.
pub returns-in-len2-up-rest-clause-contents : goal.returns-in-len2-up-rest-clause-contents
returns-in-len2-up-rest-clause-contents c =
    three_found _ (λ p. p.0.now) (λ p. p.1.now) c.args.tag _ _ c.in-len2-up.len_at_least
    (λ i. omega (arith, c.type_inv.bytes i)) (c.if-first-octet.true ∙ c.octet.ensures) refl
    c.in-len2-up-rest.len_at_least c.if-form.true c.if-high-gt0.true c.split_at_checked-in-len2-up-rest.result
    c.split_at_checked-in-len2-up-rest.ensures.cases
