-- `check_value` of `IdentifierView`: the octets that a view holds are those of an identifier.
use Rattle.spki_core.specs.Words.{viewed_held}
use Rattle.spki_core.proofs.identifier_view.IdentifierViewEncodeValue.check_value.Goals as goal

pub returns-clause-checks : goal.returns-clause-checks
returns-clause-checks c = viewed_held c.args.self.now
