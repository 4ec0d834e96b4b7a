-- `read_borrowed` says it of what is printed of a signature's row. By `signature_law` that is what the grammar says.
use Rattle.der_core.specs.Words.{decodes_stated}
use Rattle.examples.proofs.Signature.{signature_law}
use Rattle.examples.proofs.by_grammar.read_signature.Goals as goal

pub returns-clause-read : goal.returns-clause-read
returns-clause-read c =
    decodes_stated signature_law _ c.args.bytes.now c.read_borrowed.result c.read_borrowed.ensures.read
