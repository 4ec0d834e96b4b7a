-- The tags of the types here (X.690 8.2, 8.3, 8.6, 8.7, 8.8, 8.19, 8.9).
use Rattle.std.specs.Prelude.{refl}
use Rattle.der_core.specs.declared.tag.Tag.{Tag}

abbrev pub boolean_tag : Tag
boolean_tag = record { octet = 1; allowed = refl }

abbrev pub integer_tag : Tag
integer_tag = record { octet = 2; allowed = refl }

abbrev pub bit_string_tag : Tag
bit_string_tag = record { octet = 3; allowed = refl }

abbrev pub octet_string_tag : Tag
octet_string_tag = record { octet = 4; allowed = refl }

abbrev pub null_tag : Tag
null_tag = record { octet = 5; allowed = refl }

abbrev pub object_identifier_tag : Tag
object_identifier_tag = record { octet = 6; allowed = refl }

abbrev pub sequence_tag : Tag
sequence_tag = record { octet = 48; allowed = refl }
