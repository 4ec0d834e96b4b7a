-- `check_value` of `ObjectIdentifier`: the octets that it holds are those of an identifier.
use Rattle.spki_core.specs.Words.{identifier_held}
use Rattle.spki_core.proofs.object_identifier.ObjectIdentifierEncodeValue.check_value.Goals as goal

pub returns-clause-checks : goal.returns-clause-checks
returns-clause-checks c = identifier_held c.args.self.now
