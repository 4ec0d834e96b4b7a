-- `lemma_algorithms`: each clause is a law of identifiers with parameters that are a record of fields: `pss_record` and
-- `oaep_record` are these fields with their laws. `refl` is that the object identifier passes the test of identifiers.
use Rattle.std.proofs.Common.{refl}
use Rattle.pkcs1_params.specs.Words.{oaep_identifier, oaep_record, pss_identifier, pss_record, same_by_shortest}
use Rattle.pkcs1_params.proofs.Algorithms.{algorithm_counted, algorithm_decodes, strict_algorithm_decodes}
use Rattle.pkcs1_params.proofs.Faults.{strictly_tells, whole_algorithm_tells, first_named_in}
use Rattle.pkcs1_params.proofs.Masks.{algorithm_delimited}
use Rattle.standard.specs.Statement.{OaepAlgorithmEncoding, PssAlgorithmEncoding, id_rsaes_oaep, id_rsassa_pss}
use Rattle.pkcs1_params.proofs.laws.lemma_algorithms.Goals as goal

pub returns : goal.returns
returns c = record {
  pss = algorithm_decodes id_rsassa_pss refl pss_record;
  oaep = algorithm_decodes id_rsaes_oaep refl oaep_record;
  strict_pss = strict_algorithm_decodes id_rsassa_pss refl pss_record;
  strict_oaep = strict_algorithm_decodes id_rsaes_oaep refl oaep_record;
  delimited_pss = algorithm_delimited pss_record id_rsassa_pss;
  delimited_oaep = algorithm_delimited oaep_record id_rsaes_oaep;
  same_pss = same_by_shortest PssAlgorithmEncoding (algorithm_delimited pss_record id_rsassa_pss);
  same_oaep = same_by_shortest OaepAlgorithmEncoding (algorithm_delimited oaep_record id_rsaes_oaep);
  count_pss = algorithm_counted id_rsassa_pss pss_identifier pss_record;
  count_oaep = algorithm_counted id_rsaes_oaep oaep_identifier oaep_record;
  faults_pss = whole_algorithm_tells (strictly_tells pss_record) id_rsassa_pss;
  faults_oaep = whole_algorithm_tells (strictly_tells oaep_record) id_rsaes_oaep;
  first_pss = first_named_in pss_record id_rsassa_pss refl;
  first_oaep = first_named_in oaep_record id_rsaes_oaep refl;
}
