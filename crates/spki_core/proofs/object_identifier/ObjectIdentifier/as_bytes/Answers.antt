-- An `ObjectIdentifier` holds octets that pass the test of identifiers, which is exact.
use Rattle.spki_core.specs.Words.{identifier_held}
use Rattle.spki_core.proofs.object_identifier.ObjectIdentifier.as_bytes.Goals as goal

pub returns-clause-valid : goal.returns-clause-valid
returns-clause-valid c = identifier_held c.args.self.now
