-- `read_owned` says it of what is printed of a list's row. By `number_list_law` that is what the grammar says.
use Rattle.der_core.specs.Words.{memory_stated}
use Rattle.examples.proofs.Numbers.{number_list_law}
use Rattle.examples.proofs.number_list.read_number_list.Goals as goal

pub returns-clause-read : goal.returns-clause-read
returns-clause-read c =
    memory_stated number_list_law _ _ c.args.bytes.now c.read_owned.result c.read_owned.ensures.read
