-- `append_value` of `GivenKey`, whose field 0 is the key. It appends the row of the key's parts, which has the same octets
-- as the contents of the key.
use Rattle.std.proofs.Common.{◌≤◌, length, subst, sym}
use Rattle.standard.specs.Statement.{integer}
use Rattle.der_core.specs.Words.{limit}
use Rattle.pkcs1.specs.Words.{AnyNumber}
use Rattle.pkcs1.proofs.KeyRows.{key_appended, private_row_is}
use Rattle.pkcs1_c.specs.Words.{given_key}
use Rattle.pkcs1_c.proofs.GivenRows.{given_row}
use Rattle.pkcs1_c.proofs.given_key.GivenKeyEncodeValue.append_value.Goals as goal

pub append_value-requires-clause-fits : goal.append_value-requires-clause-fits
append_value-requires-clause-fits g c =
    let key = c.args.self.now.0 in
    subst (λ o. length o ≤ limit) (sym (private_row_is AnyNumber integer (given_key key) _ (given_row key _ c.row.ensures)))
    c.requires.fits

pub returns-clause-appends : goal.returns-clause-appends
returns-clause-appends g c =
    let key = c.args.self.now.0 in
    key_appended AnyNumber integer (given_key key) _ (given_row key _ c.row.ensures) g.W.Writer.room g.W.Writer.written
    c.args.writer.now c.append_value.new.writer c.append_value.result c.requires.has c.append_value.ensures.appends
