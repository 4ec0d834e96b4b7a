-- A view holds octets that pass the test of identifiers, which is exact.
use Rattle.spki_core.specs.Words.{viewed_held}
use Rattle.spki_core.proofs.identifier_view.IdentifierView.as_bytes.Goals as goal

pub returns-clause-valid : goal.returns-clause-valid
returns-clause-valid c = viewed_held c.args.self.now
