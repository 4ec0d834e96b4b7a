-- `prepend_value` of `u8`: it is the number with this one byte.
use Rattle.std.proofs.Common.{List, ℕ, sym, subst, length}
use Rattle.der_core.specs.Laws.Integer.{byte_held, byte_number}
use Rattle.der_core.specs.Words.{number_contents}
use Rattle.der_core.proofs.integer.small.U8EncodeValue.prepend_value.Goals as goal

pub prepend_number-requires : goal.prepend_number-requires
prepend_number-requires g c =
    let n = c.args.self.now in
    let Room = λ (o : List ℕ). g.W.Prepend.has_room c.args.writer.now (length o) × g.W.Prepend.length_fits (length o) in record {
      canonical = byte_held n c.requires.has;
      room = subst (λ m. Room (number_contents m)) (sym (byte_number n)) c.requires.room;
    }

pub returns : goal.returns
returns g c =
    subst (λ m. g.W.Prepend.prepended (number_contents m) c.args.writer.now c.prepend_number.new.writer)
    (byte_number c.args.self.now) c.prepend_number.ensures
