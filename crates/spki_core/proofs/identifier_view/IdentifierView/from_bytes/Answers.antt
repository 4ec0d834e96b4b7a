-- `from_bytes` gives a view exactly of the octets that are an identifier.
use Rattle.std.proofs.Common.{◌≡◌, ap, true, rules}
use Rattle.der_core.specs.Words.{are_bytes}
use Rattle.spki_core.specs.Words.{is_identifier, is_identifier-sound, is_identifier-complete}
use Rattle.spki_core.proofs.identifier_view.IdentifierView.from_bytes.Goals as goal

-- Where the test fails: all identifiers pass it, so these octets are none.
pub returns-then-not-is_identifier-clause-err : goal.returns-then-not-is_identifier-clause-err
returns-then-not-is_identifier-clause-err c = (
  ap (λ e. e.kind) c.new.ensures,
  λ is. let yes = is_identifier-complete c.args.bytes.now is in cc,
)

-- At the end, where the test is passed: only identifiers pass it. The view is over the same octets.
pub returns-clause-ok : goal.returns-clause-ok
returns-clause-ok c =
    let yes : is_identifier c.args.bytes.now ≡ true = cc in
    (is_identifier-sound c.args.bytes.now (are_bytes c.args.bytes.now (search rules)) yes, c.over.ensures)
