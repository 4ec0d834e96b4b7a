-- `append_value` of `u8`: it is the number with this one byte.
use Rattle.std.proofs.Common.{◌≤◌, sym, subst, length}
use Rattle.der_core.specs.Laws.Integer.{byte_held, byte_number}
use Rattle.der_core.specs.Words.{Appends, limit, number_contents, octets_appended_as}
use Rattle.der_core.proofs.integer.small.U8EncodeValue.append_value.Goals as goal

pub append_number-requires : goal.append_number-requires
append_number-requires g c =
    let n = c.args.self.now in record {
      canonical = byte_held n c.requires.has;
      fits = subst (λ m. length (number_contents m) ≤ limit) (sym (byte_number n)) c.requires.fits;
    }

pub returns-clause-appends : goal.returns-clause-appends
returns-clause-appends g c =
    let w = g.W.Writer in
    let n = c.args.self.now in
    octets_appended_as tt c.requires.has _ _ _ _ _ _
    (subst (λ m. Appends (Unit {0}) (number_contents m) w.room w.written c.args.writer.now c.append_number.new.writer
    c.append_number.result) (byte_number n) c.append_number.ensures.appends)
