-- `check` of `Copied` for `Private`. `try_from` gave a view of a key, `field-0`, which the bytes encode.
use Rattle.pkcs1.specs.Words.{held_view}
use Rattle.pkcs1_program.proofs.copied.PrivateCopied.check.Goals as goal

pub returns-clause-ok : goal.returns-clause-ok
returns-clause-ok c = (held_view c.in_ok-try_from.field-0, c.in_ok-try_from.ensures.read.0)
