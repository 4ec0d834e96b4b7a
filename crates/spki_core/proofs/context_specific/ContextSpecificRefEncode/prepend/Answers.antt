-- `prepend` of `ContextSpecificRef`: there is room for the encoding of the value, and the header closes it.
use Rattle.std.proofs.Common.{◌+◌, length, ◌∷◌, subst}
use Rattle.der_core.specs.Words.{length_octets, tlv}
use Rattle.spki_core.proofs.context_specific.ContextSpecificRefEncode.prepend.Goals as goal

pub prepend-requires-clause-room : goal.prepend-requires-clause-room
prepend-requires-clause-room g c =
    let t = g.T.Encoding in
    let contents = t.printed (t.written (t.value c.args.self.now.value.now)) in
    (g.met.W.Prepend.room_for_parts ((160 + c.args.self.now.tag_number.value) ∷ length_octets (length contents)) _ _
    c.requires.room).0

pub prepend_header-requires : goal.prepend_header-requires
prepend_header-requires g c =
    (_, c.args.writer.now, c.prepend.ensures, c.filled_len-before.ensures, c.requires.room)

pub returns : goal.returns
returns g c =
    let t = g.T.Encoding in
    let contents = t.printed (t.written (t.value c.args.self.now.value.now)) in
    subst (λ tag. g.W.Prepend.prepended (tlv tag contents) c.args.writer.now c.prepend_header.new.self) c.tag.ensures
    (c.prepend_header.ensures _ c.args.writer.now c.prepend.ensures c.filled_len-before.ensures c.requires.room)
