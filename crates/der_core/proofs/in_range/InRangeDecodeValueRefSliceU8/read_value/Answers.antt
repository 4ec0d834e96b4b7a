-- `read_value` of `InRange<MIN, MAX>`, at its `Err`. `field-0` is the number that `u8::read_value` gave: it isn't in the
-- range, so the fault is `Value` of INTEGER.
use Rattle.std.proofs.Common.{ap, refl, sym, ◌∙◌, inr}
use Rattle.der_core.specs.declared.error.ErrorKind.TheVariants as kind
use Rattle.der_core.specs.Words.{small_of, same_tag, in_range, integer_tag}
use Rattle.der_core.proofs.ReadSteps.{such_refuses_value}
use Rattle.der_core.proofs.in_range.InRangeDecodeValueRefSliceU8.read_value.Goals as goal

pub returns-then-not-is_within : goal.returns-then-not-is_within
returns-then-not-is_within g c =
    inr (such_refuses_value small_of (in_range g.row.MIN g.row.MAX) (kind.Value integer_tag) _
    c.in_ok-read_value.field-0 c.args.contents.now c.in_ok-read_value.ensures (sym c.if-not-is_within.ensures)
    (ap (λ e. e.kind) c.new.ensures ∙ ap kind.Value (same_tag _ integer_tag refl)))
