-- `lemma_params_decode`: each clause is a law of records of fields. `pss_record` and `oaep_record` are the fields of
-- both kinds of parameters with their laws.
use Rattle.spki_core.proofs.RecordEncodings.{record_decodes}
use Rattle.spki_core.proofs.StrictFields.{strict_decodes}
use Rattle.pkcs1_params.specs.Words.{oaep_record, pss_record}
use Rattle.pkcs1_params.proofs.Faults.{strict_tells, first_named}
use Rattle.pkcs1_params.proofs.laws.lemma_params_decode.Goals as goal

pub returns : goal.returns
returns c = record {
  pss = record_decodes pss_record;
  oaep = record_decodes oaep_record;
  strict_pss = strict_decodes pss_record;
  strict_oaep = strict_decodes oaep_record;
  faults_pss = strict_tells pss_record;
  faults_oaep = strict_tells oaep_record;
  first_pss = first_named pss_record;
  first_oaep = first_named oaep_record;
}
