-- The clauses follow from what T states: `law`, that the spellings are read that are printed, and no others, and
-- `reads_alike`, that a value is read as its spelling is.
use Rattle.der_core.specs.Words.{front_reading_reads}
use Rattle.der_core.proofs.Readings.{answers_decode, values_decode}
use Rattle.der_core.proofs.laws.lemma_encodings_are_read.Goals as goal

pub returns-clause-reads : goal.returns-clause-reads
returns-clause-reads g c = front_reading_reads g.T.Encoding.law g.T.Encoding.reads_alike

pub returns-clause-decodes : goal.returns-clause-decodes
returns-clause-decodes g c = values_decode g.T.Encoding.law g.T.Encoding.reads_alike

pub returns-clause-answers : goal.returns-clause-answers
returns-clause-answers g c = answers_decode g.T.Encoding.law g.T.Encoding.reads_alike g.T.Encoding.value
