-- What is told of a whole slice is what it encodes: as a container, and as one of an RSA key.
use Rattle.pkcs8_core.proofs.ContainedKeys.{contained_keys_decode}
use Rattle.pkcs8_core.specs.Words.{containers_decode}
use Rattle.pkcs8_core.proofs.info.lemma_containers_decode.Goals as goal

pub returns-clause-container : goal.returns-clause-container
returns-clause-container c = containers_decode

pub returns-clause-key : goal.returns-clause-key
returns-clause-key c = contained_keys_decode
