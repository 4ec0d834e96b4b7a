-- The first is of a line, the second of a list of lines: each has at most one output, by the laws of the crates below.
use Rattle.pkcs1_program.proofs.OneAnswer.{Laws, answers_at_most_one, output_at_most_one}
use Rattle.pkcs1_program.proofs.laws.lemma_answers_are_one.Goals as goal

pub returns : goal.returns
returns c =
    let laws : Laws = record {
      public_keys = c.lemma_encodings_are_delimited.ensures.public;
      private_keys = c.lemma_encodings_are_delimited.ensures.private;
      pss = c.lemma_encodings_are_delimited.ensures.pss;
      oaep = c.lemma_encodings_are_delimited.ensures.oaep;
      containers = c.lemma_containers_have_one_encoding.ensures.one;
      same_containers = c.lemma_containers_have_one_encoding.ensures.same;
      pss_counted = c.lemma_pss_spellings.ensures.defaults;
      oaep_counted = c.lemma_oaep_spellings.ensures.defaults;
      pss_masks = c.lemma_pss_spellings.ensures.encoding;
      oaep_masks = c.lemma_oaep_spellings.ensures.encoding;
    } in
    (answers_at_most_one laws, output_at_most_one laws)
