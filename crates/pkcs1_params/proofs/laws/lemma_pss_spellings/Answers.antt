-- `lemma_pss_spellings`: each clause is a law of records of fields. `pss_record` is the fields of RSASSA-PSS parameters
-- with their laws.
use Rattle.spki_core.proofs.RecordEncodings.{two_to_the_defaults}
use Rattle.pkcs1_params.specs.Words.{pss_record, same_by_shortest}
use Rattle.pkcs1_params.proofs.Masks.{defaults_counted, each_has_mask_zero, each_has_one_mask, each_mask_has_one, record_delimited, shortest_has_no_defaults}
use Rattle.standard.specs.Statement.{PssEncoding}
use Rattle.pkcs1_params.proofs.laws.lemma_pss_spellings.Goals as goal

pub returns : goal.returns
returns c = record {
  defaults = defaults_counted pss_record;
  mask = each_has_one_mask pss_record;
  encoding = each_mask_has_one pss_record;
  shortest = shortest_has_no_defaults pss_record;
  fits = each_has_mask_zero pss_record;
  count = two_to_the_defaults pss_record;
  same = same_by_shortest PssEncoding (record_delimited pss_record);
}
