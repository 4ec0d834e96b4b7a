-- `read_value` of `Version`. Where `Version::try_from` fails, the number that was read isn't below 2, which is `high`. So
-- the version is read as `Value` of INTEGER, which is the error that was made.
use Rattle.std.proofs.Common.{◌≡◌, ◌∙◌, ap, arith, false, inr, refl, nat_lt}
use Rattle.der_core.specs.Words.{small_of, same_tag, integer_tag}
use Rattle.der_core.specs.declared.error.ErrorKind.TheVariants as kind
use Rattle.der_core.proofs.ReadSteps.{such_refuses_value}
use Rattle.pkcs1.proofs.version.VersionDecodeValueRefSliceU8.read_value.Goals as goal

pub returns-in-Err : goal.returns-in-Err
returns-in-Err g c =
    let high : nat_lt c.in_ok-number.number 2 ≡ false = grind arith in
    inr (such_refuses_value small_of (λ n. nat_lt n 2) (kind.Value integer_tag) _ c.in_ok-number.number
    c.args.contents.now c.in_ok-number.ensures high
    (ap (λ e. e.kind) c.new.ensures ∙ ap kind.Value (same_tag _ integer_tag refl)))
