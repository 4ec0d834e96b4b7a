-- The tag of attributes: [0], IMPLICIT, of a SET OF, so constructed (RFC 5208 5; X.690 8.14.3).
use Rattle.std.specs.Prelude.{refl}
use Rattle.der_core.specs.declared.tag.Tag.{Tag}

abbrev pub attributes_tag : Tag
attributes_tag = record { octet = 160; allowed = refl }
