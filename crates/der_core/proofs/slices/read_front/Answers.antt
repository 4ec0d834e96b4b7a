-- `read_front`, at the end: what is read at the front, the slice begins with an encoding of that value alone.
use Rattle.std.proofs.Common.{arith, rules}
use Rattle.der_core.specs.Words.{are_bytes, front_reading_reads, front_reads}
use Rattle.der_core.proofs.ReadSteps.{returned_decodes}
use Rattle.der_core.proofs.slices.read_front.Goals as goal

pub returns-clause-read : goal.returns-clause-read
returns-clause-read g c =
    returned_decodes (λ r. (g.T.Encoding.value r.0, r.1.now)) c.args.bytes.now
    (front_reads (front_reading_reads g.T.Encoding.law g.T.Encoding.reads_alike)) _ c.read_one.result
    (are_bytes _ (λ i. omega (arith, c.type_inv.bytes i))) (search rules)
