-- Each law of fields follows from that of the type inside, `law` with `reads_alike`: what its `read_front` reads are
-- its encodings.
use Rattle.der_core.specs.Words.{tlv_front_is_next, optional_reads, front_reading_reads, context_octet}
use Rattle.spki_core.specs.Words.{defaulted_reads, explicit_reads}
use Rattle.spki_core.proofs.field.lemma_fields_are_read.Goals as goal

-- A field that has to be there.
pub returns-clause-explicit : goal.returns-clause-explicit
returns-clause-explicit g c = explicit_reads (front_reading_reads g.T.Encoding.law g.T.Encoding.reads_alike)

-- One that is there or not. An encoding of it begins with the octet of its tag.
pub returns-clause-optional : goal.returns-clause-optional
returns-clause-optional g c n few =
    optional_reads (context_octet n)
    (explicit_reads (front_reading_reads g.T.Encoding.law g.T.Encoding.reads_alike) n few)
    (λ v b rest i. tlv_front_is_next (context_octet n) b rest i)

-- One that has its default if it isn't there.
pub returns-clause-default : goal.returns-clause-default
returns-clause-default g c n default few =
    defaulted_reads (front_reading_reads g.T.Encoding.law g.T.Encoding.reads_alike) n few default
