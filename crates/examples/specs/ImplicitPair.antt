-- The tag [0] of a constructed value (X.690 8.1.2.2, 8.1.2.5).
use Rattle.std.proofs.Common.{refl}
use Rattle.der_core.specs.declared.tag.Tag.{Tag}

abbrev pub implicit_tag : Tag
implicit_tag = record { octet = 160; allowed = refl }
