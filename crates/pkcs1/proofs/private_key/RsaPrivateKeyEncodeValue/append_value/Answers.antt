-- `append_value` of `EncodeValue` for `RsaPrivateKey<U>`. It appends the row of the key's parts, which has the same octets
-- as the contents of the key.
use Rattle.pkcs1.specs.Words.{private_as, private_key_with}
use Rattle.pkcs1.proofs.KeyRows.{key_appended, listed_row}
use Rattle.pkcs1.proofs.private_key.RsaPrivateKeyEncodeValue.append_value.Goals as goal

pub returns-clause-appends : goal.returns-clause-appends
returns-clause-appends g c =
    let u = g.U.Encoding in
    let key = private_as u.written (private_key_with u.value c.args.self.now) in
    key_appended u.valid u.printed key _ (listed_row u.value u.written c.args.self.now _ c.row.ensures)
    g.W.Writer.room g.W.Writer.written c.args.writer.now c.append_value.new.writer c.append_value.result c.requires.has
    c.append_value.ensures.appends
