-- What identifiers and encodings of any tag mean, by what they hold.
use Rattle.std.specs.Prelude.{ℕ, List, take}
use Rattle.spki_core.specs.declared.any.AnyRef.{AnyRef}
use Rattle.spki_core.specs.declared.identifier_view.IdentifierView.{IdentifierView}
use Rattle.spki_core.specs.declared.object_identifier.ObjectIdentifier.{ObjectIdentifier}
use Rattle.spki_core.specs.declared.owned_any.Any.{Any}
use Rattle.standard.specs.Statement.{TagAndContents}

-- The octets of an identifier, owned and borrowed.
abbrev pub own_octets_of : ObjectIdentifier → List ℕ
own_octets_of oid = take oid.length oid.octets

abbrev pub identifier_octets : IdentifierView → List ℕ
identifier_octets oid = oid.octets.now

-- An encoding of any tag, borrowed and owned.
abbrev pub any_of : AnyRef → TagAndContents
any_of any = record { tag = any.tag.octet; contents = any.contents.now }

abbrev pub own_any_of : Any → TagAndContents
own_any_of any = record { tag = any.tag.octet; contents = any.contents.items }
