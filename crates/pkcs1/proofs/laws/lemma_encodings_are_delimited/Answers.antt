-- Of keys `KeyReads` says it. Of parameters it follows from the kinds of their fields, which `pss_record` and
-- `oaep_record` list.
use Rattle.pkcs1.proofs.KeyReads as keys
use Rattle.pkcs1_params.specs.Words.{oaep_record, pss_record}
use Rattle.pkcs1_params.proofs.Masks.{record_delimited}
use Rattle.pkcs1.proofs.laws.lemma_encodings_are_delimited.Goals as goal

pub returns : goal.returns
returns c = record {
  public = keys.public_delimited;
  private = keys.private_delimited;
  pss = record_delimited pss_record;
  oaep = record_delimited oaep_record;
}
