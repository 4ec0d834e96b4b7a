-- `from_der`, at the end: what reading a whole slice gives, the clause `encoding` says of the encodings.
use Rattle.std.proofs.Common.{rules}
use Rattle.der_core.specs.Words.{front_reading_reads, whole_reads}
use Rattle.der_core.proofs.ReadSteps.{returned_reads_all}
use Rattle.der_core.proofs.decode.Decode.from_der.Goals as goal

pub returns-clause-encoding : goal.returns-clause-encoding
returns-clause-encoding g c =
    returned_reads_all g.Self.Encoding.value (g.B.Octets.octets c.args.bytes)
    (whole_reads (front_reading_reads g.Self.Encoding.law g.Self.Encoding.reads_alike)) _ c.read_alone.result
    c.octet_count.ensures.bytes (search rules)
