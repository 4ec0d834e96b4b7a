-- `lemma_algorithms_exclude_each_other`: the object identifiers of the algorithms differ. The contents of parameters
-- begin with a tag octet of 160 or more, or are none, and those of an algorithm identifier begin with 6.
use Rattle.pkcs1_params.proofs.Masks.{algorithms_differ, oaep_no_identifier, pss_no_identifier}
use Rattle.pkcs1_params.proofs.laws.lemma_algorithms_exclude_each_other.Goals as goal

pub returns : goal.returns
returns c = record { algorithms = algorithms_differ; pss = pss_no_identifier; oaep = oaep_no_identifier }
