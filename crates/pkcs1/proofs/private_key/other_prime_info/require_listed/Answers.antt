-- `require_listed`, where the list is there but empty: the error was made with this tag.
use Rattle.std.proofs.Common.{ap, ◌∙◌, refl, rules}
use Rattle.der_core.specs.Words.{same_tag}
use Rattle.der_core.specs.declared.error.ErrorKind.TheVariants as kind
use Rattle.pkcs1.proofs.private_key.other_prime_info.require_listed.Goals as goal

pub returns-in-Some-clause-err : goal.returns-in-Some-clause-err
returns-in-Some-clause-err g c =
    (ap (λ e. e.kind) c.new.ensures ∙ ap kind.Value (same_tag _ _ refl), rw c.in-Some.is (search rules))
