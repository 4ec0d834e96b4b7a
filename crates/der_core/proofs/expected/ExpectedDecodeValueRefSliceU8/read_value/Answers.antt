-- `read_value` of `Expected<N>`, at its `Err`. `branch` is the test of the number that `u8::read_value` gave: it isn't N,
-- so the fault is `Value` of INTEGER.
use Rattle.std.proofs.Common.{ap, refl, ◌∙◌, inr}
use Rattle.der_core.specs.declared.error.ErrorKind.TheVariants as kind
use Rattle.der_core.specs.Words.{same_tag, integer_tag}
use Rattle.der_core.proofs.ReadSteps.{expected_refuses_value}
use Rattle.der_core.proofs.expected.ExpectedDecodeValueRefSliceU8.read_value.Goals as goal

pub returns-then-branch : goal.returns-then-branch
returns-then-branch g c =
    inr (expected_refuses_value _ _ _ c.args.contents.now c.in_ok-read_value.ensures c.if-branch.true
    (ap (λ e. e.kind) c.new.ensures ∙ ap kind.Value (same_tag _ integer_tag refl)))
