-- What the kernel prints of containers is what the statement has.
use Rattle.pkcs8_core.specs.Words.{container_stated}
use Rattle.pkcs8_core.proofs.info.lemma_containers_share_the_grammar.Goals as goal

pub returns : goal.returns
returns c = container_stated.same
