-- `write_only` says both of what is printed of a signature's row. By `signature_law` that is what the grammar says.
use Rattle.std.proofs.Common.{length}
use Rattle.der_core.specs.Words.{encodes_stated, unwritten_stated}
use Rattle.examples.proofs.Signature.{signature_law}
use Rattle.examples.proofs.by_grammar.write_signature.Goals as goal

pub returns-clause-written : goal.returns-clause-written
returns-clause-written c =
    encodes_stated signature_law _ c.args.out.now c.write_only.new.out _ c.write_only.ensures.written

pub returns-clause-err : goal.returns-clause-err
returns-clause-err c =
    unwritten_stated signature_law _ (length c.args.out.now) c.write_only.result c.write_only.ensures.err
