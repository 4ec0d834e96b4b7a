-- `read_value` of `TrailerField`, in the arm `_`: a number `n` was read, which isn't 1 (`isnt`). The error is `Value` with
-- the tag INTEGER (`named`).
use Rattle.std.proofs.Common.{◌≡◌, ◌==◌, ◌∙◌, false, refl, ap, inr, arith}
use Rattle.der_core.specs.Words.{small_of, same_tag, integer_tag}
use Rattle.der_core.specs.declared.error.ErrorKind.TheVariants as kind
use Rattle.der_core.proofs.ReadSteps.{such_refuses_value}
use Rattle.pkcs1_params.proofs.trailer_field.TrailerFieldDecodeValueRefSliceU8.read_value.Goals as goal

pub returns-in_default : goal.returns-in_default
returns-in_default g c =
    let n = c.in_ok-read_value.field-0 in
    let isnt : (n == 1) ≡ false = grind arith in
    let named = ap (λ e. e.kind) c.new.ensures ∙ ap kind.Value (same_tag _ integer_tag refl) in
    inr (such_refuses_value small_of (λ n. n == 1) (kind.Value integer_tag) _ n c.args.contents.now
    c.in_ok-read_value.ensures isnt named)
