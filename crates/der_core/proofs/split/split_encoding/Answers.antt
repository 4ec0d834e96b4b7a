-- `split_encoding`: what follows a part of bytes is within the limit.
use Rattle.std.proofs.Common.{arith}
use Rattle.der_core.specs.Words.{are_bytes}
use Rattle.der_core.proofs.ReadSteps.{behind_split}
use Rattle.der_core.proofs.split.split_encoding.Goals as goal

pub returns-in-Some-clause-rest : goal.returns-in-Some-clause-rest
returns-in-Some-clause-rest c =
    behind_split c.args.tag c.args.bytes.now _ _ (are_bytes _ (λ i. omega (arith, c.type_inv.bytes i))) c.requires
    c.in-Some.ensures.contents
