-- `prepend_value` of `GivenKey`, whose field 0 is the key: the row of the key's parts has the same octets as the contents
-- of the key.
use Rattle.std.proofs.Common.{length, subst, sym}
use Rattle.standard.specs.Statement.{integer}
use Rattle.pkcs1.specs.Words.{AnyNumber}
use Rattle.pkcs1.proofs.KeyRows.{private_row_is}
use Rattle.pkcs1_c.specs.Words.{given_key}
use Rattle.pkcs1_c.proofs.GivenRows.{given_row}
use Rattle.pkcs1_c.proofs.given_key.GivenKeyEncodeValue.prepend_value.Goals as goal

pub prepend_value-requires-clause-room : goal.prepend_value-requires-clause-room
prepend_value-requires-clause-room g c =
    let key = c.args.self.now.0 in
    subst (λ o. g.W.Prepend.has_room c.args.writer.now (length o) × g.W.Prepend.length_fits (length o))
    (sym (private_row_is AnyNumber integer (given_key key) _ (given_row key _ c.row.ensures))) c.requires.room

pub returns : goal.returns
returns g c =
    let key = c.args.self.now.0 in
    subst (λ o. g.W.Prepend.prepended o c.args.writer.now c.prepend_value.new.writer)
    (private_row_is AnyNumber integer (given_key key) _ (given_row key _ c.row.ensures)) c.prepend_value.ensures
