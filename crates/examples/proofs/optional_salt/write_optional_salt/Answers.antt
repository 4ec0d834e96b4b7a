-- `write_only` says both of what is printed of the row. By `salt_law` that is what the grammar says.
use Rattle.std.proofs.Common.{length}
use Rattle.der_core.specs.Words.{encodes_stated, unwritten_stated}
use Rattle.examples.proofs.Salt.{salt_law}
use Rattle.examples.proofs.optional_salt.write_optional_salt.Goals as goal

pub returns-clause-written : goal.returns-clause-written
returns-clause-written c = encodes_stated salt_law _ c.args.out.now c.write_only.new.out _ c.write_only.ensures.written

pub returns-clause-err : goal.returns-clause-err
returns-clause-err c = unwritten_stated salt_law _ (length c.args.out.now) c.write_only.result c.write_only.ensures.err
