-- The tags [0], [1] and [2] of AuthorityKeyIdentifier: primitive, constructed, primitive (X.690 8.1.2.2, 8.1.2.5).
use Rattle.std.proofs.Common.{refl}
use Rattle.der_core.specs.declared.tag.Tag.{Tag}

abbrev pub key_identifier_tag : Tag
key_identifier_tag = record { octet = 128; allowed = refl }

abbrev pub issuer_tag : Tag
issuer_tag = record { octet = 161; allowed = refl }

abbrev pub serial_number_tag : Tag
serial_number_tag = record { octet = 130; allowed = refl }
