-- Behind its first INTEGER a container has a SEQUENCE, and a key a number. Parameters begin with the tag of a field.
use Rattle.pkcs8_core.proofs.ContainedKeys as exclusion
use Rattle.pkcs8_core.proofs.info.lemma_containers_exclude_other_types.Goals as goal

pub returns-clause-public_key : goal.returns-clause-public_key
returns-clause-public_key c = exclusion.container_excludes_public_key

pub returns-clause-private_key : goal.returns-clause-private_key
returns-clause-private_key c = exclusion.container_excludes_private_key

pub returns-clause-pss : goal.returns-clause-pss
returns-clause-pss c = exclusion.container_excludes_pss

pub returns-clause-oaep : goal.returns-clause-oaep
returns-clause-oaep c = exclusion.container_excludes_oaep
