-- The first two say that the functions give a key exactly of its encodings, the others that their faults are about the
-- bytes.
use Rattle.pkcs1.specs.Words.{public_decodes, private_decodes, private_tells, public_tells}
use Rattle.pkcs1.proofs.laws.lemma_keys_decode.Goals as goal

pub returns : goal.returns
returns c = record {
  public = public_decodes;
  private = private_decodes;
  public_faults = public_tells;
  private_faults = private_tells;
}
