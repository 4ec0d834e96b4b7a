-- `check` of `Copied` for `Public`. `try_from` gave a key, `field-0`, which the bytes encode.
use Rattle.der_core.specs.Words.{bytes_of}
use Rattle.pkcs1.specs.Words.{held_public_key}
use Rattle.pkcs1_program.proofs.copied.PublicCopied.check.Goals as goal

pub returns-clause-ok : goal.returns-clause-ok
returns-clause-ok c = (held_public_key bytes_of c.in_ok-try_from.field-0, c.in_ok-try_from.ensures.read.0)
