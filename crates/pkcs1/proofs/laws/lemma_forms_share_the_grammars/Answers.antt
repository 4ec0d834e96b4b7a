-- Of each pair the first is the borrowed form, the second the owned one. What a form states doesn't depend on who holds
-- the octets, so both are the same fact.
use Rattle.pkcs1_params.specs.Words.{oaep_record, pss_record}
use Rattle.spki_core.proofs.RecordEncodings.{record_spelled}
use Rattle.pkcs1.specs.Words.{private_as_stated, public_as_stated}
use Rattle.pkcs1.proofs.laws.lemma_forms_share_the_grammars.Goals as goal

pub returns : goal.returns
returns c = record {
  public = (public_as_stated.same, public_as_stated.same);
  private = (private_as_stated.same, private_as_stated.same);
  pss = (record_spelled pss_record, record_spelled pss_record);
  oaep = (record_spelled oaep_record, record_spelled oaep_record);
}
