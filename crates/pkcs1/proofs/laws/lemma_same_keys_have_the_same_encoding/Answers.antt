-- A key has one encoding, and an encoding is that of one key. So two keys are the same exactly if their shortest
-- encodings are the same bytes.
use Rattle.pkcs1.proofs.KeyReads.{private_key_same_by_shortest, public_key_same_by_shortest}
use Rattle.pkcs1.proofs.laws.lemma_same_keys_have_the_same_encoding.Goals as goal

pub returns-clause-public : goal.returns-clause-public
returns-clause-public c = public_key_same_by_shortest

pub returns-clause-private : goal.returns-clause-private
returns-clause-private c = private_key_same_by_shortest
