-- `keys`: a public key has two INTEGERs, a private key has more. The others: a key begins with an INTEGER, and no
-- parameters do.
use Rattle.pkcs1.proofs.KeysWritten.{keys_exclude}
use Rattle.pkcs1.proofs.KeysWritten as parameters
use Rattle.pkcs1.proofs.laws.lemma_types_exclude_each_other.Goals as goal

pub returns : goal.returns
returns c = record {
  keys = keys_exclude;
  public_pss = parameters.public_pss;
  public_oaep = parameters.public_oaep;
  private_pss = parameters.private_pss;
  private_oaep = parameters.private_oaep;
}
