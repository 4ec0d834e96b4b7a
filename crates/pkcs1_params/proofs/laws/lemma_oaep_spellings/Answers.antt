-- `lemma_oaep_spellings`: each clause is a law of records of fields. `oaep_record` is the fields of RSAES-OAEP
-- parameters with their laws.
use Rattle.spki_core.proofs.RecordEncodings.{two_to_the_defaults}
use Rattle.pkcs1_params.specs.Words.{oaep_record, same_by_shortest}
use Rattle.pkcs1_params.proofs.Masks.{defaults_counted, each_has_mask_zero, each_has_one_mask, each_mask_has_one, record_delimited, shortest_has_no_defaults}
use Rattle.standard.specs.Statement.{OaepEncoding}
use Rattle.pkcs1_params.proofs.laws.lemma_oaep_spellings.Goals as goal

pub returns : goal.returns
returns c = record {
  defaults = defaults_counted oaep_record;
  mask = each_has_one_mask oaep_record;
  encoding = each_mask_has_one oaep_record;
  shortest = shortest_has_no_defaults oaep_record;
  fits = each_has_mask_zero oaep_record;
  count = two_to_the_defaults oaep_record;
  same = same_by_shortest OaepEncoding (record_delimited oaep_record);
}
