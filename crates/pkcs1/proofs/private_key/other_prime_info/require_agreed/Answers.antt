-- `require_agreed`, at its errors: whether there is a list doesn't agree with the version, or it is a list of none.
use Rattle.std.proofs.Common.{ap, refl, sym, ◌∙◌, Err}
use Rattle.der_core.specs.declared.error.Error.{Error}
use Rattle.der_core.specs.declared.error.ErrorKind.TheVariants as kind
use Rattle.der_core.specs.Words.{same_tag, integer_tag, sequence_tag}
use Rattle.pkcs1.proofs.OtherPrimeReads.{multi_unlisted, empty_listed, two_listed}
use Rattle.pkcs1.proofs.private_key.other_prime_info.require_agreed.Goals as goal

pub returns-then-is_multi : goal.returns-then-is_multi
returns-then-is_multi c =
    let told = ap (λ (e : Error). e.kind) c.new.ensures ∙ ap kind.Value (same_tag _ integer_tag refl) in
    rw c.in-None.is (multi_unlisted c.args.version c.is_multi.ensures c.args.rest.now c.if-is_multi.true
    ∙ ap (λ k. Err k) (sym told))

pub returns-then-not-is_multi : goal.returns-then-not-is_multi
returns-then-not-is_multi c =
    let told =
    ap (λ (e : Error). e.kind) c.new-then-not-is_multi.ensures ∙ ap kind.Value (same_tag _ integer_tag refl) in
    rw c.in-Some.is (two_listed c.args.version c.is_multi-in-Some.ensures c.args.rest.now c.in-Some.count
    c.if-not-is_multi.true ∙ ap (λ k. Err k) (sym told))

pub returns-then-count-eq0 : goal.returns-then-count-eq0
returns-then-count-eq0 c =
    let told =
    ap (λ (e : Error). e.kind) c.new-then-count-eq0.ensures ∙ ap kind.Value (same_tag _ sequence_tag refl) in
    rw c.in-Some.is (empty_listed c.args.version c.is_multi-in-Some.ensures c.args.rest.now c.in-Some.count
    c.if-not-is_multi.false c.if-count-eq0.true ∙ ap (λ k. Err k) (sym told))
