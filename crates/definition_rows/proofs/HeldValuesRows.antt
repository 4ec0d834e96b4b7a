-- Worked rows of `HeldValues.antt` of `spki_core`: what identifiers and encodings of any tag hold.
use Rattle.std.proofs.Common.{◌≡◌, refl, take}
use Rattle.spki_core.specs.HeldValues.{any_of, identifier_octets, own_any_of, own_octets_of}
use Rattle.spki_core.specs.declared.any.AnyRef.{AnyRef}
use Rattle.spki_core.specs.declared.identifier_view.IdentifierView.{IdentifierView}
use Rattle.spki_core.specs.declared.object_identifier.ObjectIdentifier.{ObjectIdentifier}
use Rattle.spki_core.specs.declared.owned_any.Any.{Any}

identifiers_held : (own : ObjectIdentifier) (view : IdentifierView)
    → (own_octets_of own ≡ take own.length own.octets) × (identifier_octets view ≡ view.octets.now)
identifiers_held own view = (refl, refl)

any_parts_held : (any : AnyRef) → ((any_of any).tag ≡ any.tag.octet) × ((any_of any).contents ≡ any.contents.now)
any_parts_held any = (refl, refl)

own_any_parts_held : (any : Any) → ((own_any_of any).tag ≡ any.tag.octet) × ((own_any_of any).contents ≡ any.contents.items)
own_any_parts_held any = (refl, refl)
