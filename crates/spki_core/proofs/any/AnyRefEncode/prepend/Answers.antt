-- `prepend` of `AnyRef`: there is room for the contents, and the header closes them.
use Rattle.std.proofs.Common.{length, ◌∷◌, subst}
use Rattle.der_core.specs.Words.{length_octets, tlv}
use Rattle.spki_core.specs.Words.{any_of}
use Rattle.spki_core.proofs.any.AnyRefEncode.prepend.Goals as goal

pub prepend-requires : goal.prepend-requires
prepend-requires g c =
    let any = any_of c.args.self.now in
    (g.met.W.Prepend.room_for_parts (any.tag ∷ length_octets (length any.contents)) _ _ c.requires.room).0.0

pub prepend_header-requires : goal.prepend_header-requires
prepend_header-requires g c =
    (_, c.args.writer.now, c.prepend.ensures, c.filled_len-before.ensures, c.requires.room)

pub returns : goal.returns
returns g c =
    let any = any_of c.args.self.now in
    subst (λ tag. g.W.Prepend.prepended (tlv tag any.contents) c.args.writer.now c.prepend_header.new.self) c.tag.ensures
    (c.prepend_header.ensures _ c.args.writer.now c.prepend.ensures c.filled_len-before.ensures c.requires.room)
