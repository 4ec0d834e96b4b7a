-- What containers and attributes mean.
use Rattle.std.specs.Prelude.{ℕ, List, option_map}
use Rattle.std.specs.Borrow.{Bor}
use Rattle.der_core.specs.Words.{octets_of}
use Rattle.spki_core.specs.Words.{algorithm_in, any_of, own_octets_of, identifier_octets}
use Rattle.spki_core.specs.declared.identifier_view.IdentifierView.{IdentifierView}
use Rattle.spki_core.specs.declared.object_identifier.ObjectIdentifier.{ObjectIdentifier}
use Rattle.pkcs8_core.specs.declared.attributes.Attributes.{Attributes}
use Rattle.pkcs8_core.specs.declared.info.PrivateKeyInfoOf.{PrivateKeyInfoOf}
use Rattle.pkcs8_core.specs.Container.{Container}

abbrev pub slice_now : Bor (List ℕ) → List ℕ
slice_now s = s.now

abbrev pub attributes_of : Attributes → List ℕ
attributes_of attributes = attributes.bytes.now

abbrev pub info_in : {O : Type 0} → (O → List ℕ) → PrivateKeyInfoOf O → Container
info_in octets info =
    record {
      algorithm = algorithm_in octets any_of info.algorithm;
      private_key = octets_of info.private_key;
      attributes = option_map slice_now info.attributes;
    }

-- that hold the identifier of their algorithm
abbrev pub info_of : PrivateKeyInfoOf ObjectIdentifier → Container
info_of = info_in own_octets_of

-- that borrow it from the input
abbrev pub info_viewed : PrivateKeyInfoOf IdentifierView → Container
info_viewed = info_in identifier_octets
