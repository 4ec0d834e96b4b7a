-- `lemma_containers_have_one_encoding`: a container has one encoding, and an encoding is that of one container.
use Rattle.pkcs1_params.specs.Words.{same_by_shortest}
use Rattle.pkcs8_core.proofs.ContainedKeys.{containers_delimited}
use Rattle.pkcs8_core.specs.Words.{containers_have_one}
use Rattle.pkcs8_core.proofs.info.lemma_containers_have_one_encoding.Goals as goal
use Rattle.standard.specs.Statement.{ContainerEncoding}

-- What is printed of a container is its only encoding.
pub returns-clause-one : goal.returns-clause-one
returns-clause-one c = containers_have_one

-- An encoding is that of one container, and a container has one: so two are the same exactly if their encodings are.
pub returns-clause-same : goal.returns-clause-same
returns-clause-same c = same_by_shortest ContainerEncoding containers_delimited
