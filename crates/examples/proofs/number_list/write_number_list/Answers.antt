-- `write_only` says both of what is printed of a list's row. By `number_list_law` that is what the grammar says.
use Rattle.std.proofs.Common.{length}
use Rattle.der_core.specs.Words.{encodes_stated, unwritten_stated}
use Rattle.examples.proofs.Numbers.{number_list_law}
use Rattle.examples.proofs.number_list.write_number_list.Goals as goal

pub returns-clause-written : goal.returns-clause-written
returns-clause-written c =
    encodes_stated number_list_law _ c.args.out.now c.write_only.new.out _ c.write_only.ensures.written

pub returns-clause-err : goal.returns-clause-err
returns-clause-err c =
    unwritten_stated number_list_law _ (length c.args.out.now) c.write_only.result c.write_only.ensures.err
