-- `read_contents`, at the end: what the contents are read as, they are contents of that value alone.
use Rattle.std.proofs.Common.{arith, rules}
use Rattle.der_core.specs.Words.{are_bytes, reading_reads, limited_reads}
use Rattle.der_core.proofs.ReadSteps.{returned_decodes}
use Rattle.der_core.proofs.slices.read_contents.Goals as goal

pub returns-clause-read : goal.returns-clause-read
returns-clause-read g c =
    returned_decodes g.T.Contents.value c.args.contents.now
    (limited_reads (reading_reads g.T.Contents.law g.T.Contents.reads_alike)) _ c.read_value.result
    (are_bytes _ (λ i. omega (arith, c.type_inv.contents i))) (search rules)
