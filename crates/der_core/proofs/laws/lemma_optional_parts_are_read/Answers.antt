-- Both clauses are laws of an OPTIONAL last part.
use Rattle.der_core.specs.Words.{last_by_tag_law, last_law, tagged_law, tagged_some}
use Rattle.der_core.proofs.laws.lemma_optional_parts_are_read.Goals as goal

-- A last part that is there if any bytes are, as no encoding of it is empty.
pub returns-clause-last : goal.returns-clause-last
returns-clause-last g c =
    let tag = g.T.FixedTag.TAG in
    last_law (tagged_law g.T.Contents.law tag) (tagged_some g.T.Contents.printed tag.octet)

-- A last part that is there if the octet of its tag is next.
pub returns-clause-next : goal.returns-clause-next
returns-clause-next g c = last_by_tag_law g.T.Contents.law g.T.FixedTag.TAG
