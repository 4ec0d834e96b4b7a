-- `salt_len` gives the salt length of the parameters that were read.
use Rattle.std.proofs.Common.{refl}
use Rattle.examples.proofs.sizes.salt_len.Goals as goal

pub returns-clause-ok : goal.returns-clause-ok
returns-clause-ok c = (_, c.in_ok-params.ensures.read, refl)
