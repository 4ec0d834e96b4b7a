-- `check_value` of `InRange<MIN, MAX>`, at its `Err`: the tag of the error is that of INTEGER.
use Rattle.std.proofs.Common.{ap, ◌∙◌, refl}
use Rattle.der_core.specs.Words.{integer_tag, same_tag}
use Rattle.der_core.specs.declared.error.ErrorKind.TheVariants as kind
use Rattle.der_core.proofs.Writing.{refused_with}
use Rattle.der_core.proofs.in_range.InRangeEncodeValue.check_value.Goals as goal

pub returns-else-is_within-clause-tag : goal.returns-else-is_within-clause-tag
returns-else-is_within-clause-tag g c =
    refused_with integer_tag _ (ap (λ e. e.kind) c.new.ensures ∙ ap kind.Value (same_tag _ integer_tag refl))
