-- `read_borrowed` says it of what is printed of the row. By `salt_law` that is what the grammar says.
use Rattle.der_core.specs.Words.{decodes_stated}
use Rattle.examples.proofs.Salt.{salt_law}
use Rattle.examples.proofs.optional_salt.read_optional_salt.Goals as goal

pub returns-clause-read : goal.returns-clause-read
returns-clause-read c = decodes_stated salt_law _ c.args.bytes.now c.read_borrowed.result c.read_borrowed.ensures.read
