-- `prepend` of each `T: EncodeValue + FixedTag`: there is room for the contents, and the header closes them.
use Rattle.std.proofs.Common.{length, subst, ◌∷◌}
use Rattle.der_core.specs.Words.{length_octets, tlv}
use Rattle.der_core.proofs.encode.AnyEncode.prepend.Goals as goal

pub prepend_value-requires-clause-room : goal.prepend_value-requires-clause-room
prepend_value-requires-clause-room g c =
    let t = g.T.Contents in
    let contents = t.printed (t.written (t.value c.args.self.now)) in
    (g.met.W.Prepend.room_for_parts (g.T.FixedTag.TAG.octet ∷ length_octets (length contents)) _ _ c.requires.room).0

pub prepend_header-requires : goal.prepend_header-requires
prepend_header-requires g c = (_, c.args.writer.now, c.prepend_value.ensures, c.filled_len-before.ensures, c.requires.room)

pub returns : goal.returns
returns g c =
    let t = g.T.Contents in
    let contents = t.printed (t.written (t.value c.args.self.now)) in
    subst (λ tag. g.W.Prepend.prepended (tlv tag.octet contents) c.args.writer.now c.prepend_header.new.self) c.TAG.ensures
    (c.prepend_header.ensures _ c.args.writer.now c.prepend_value.ensures c.filled_len-before.ensures c.requires.room)
