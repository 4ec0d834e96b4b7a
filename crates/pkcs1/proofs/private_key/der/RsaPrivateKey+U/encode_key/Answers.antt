-- `encode_key` of `RsaPrivateKey<U>`. It calls `encode_into`, which speaks of the encodings that U states. `same` says
-- that they are those of `PrivateKeyEncoding`, for the key that the numbers of U mean. 48 is the tag octet of SEQUENCE.
use Rattle.std.proofs.Common.{ℕ, length, Ok, Err, Some, None}
use Rattle.der_core.specs.Words.{err_from_is_err_and, tagged_shortest}
use Rattle.der_core.proofs.Writing.{encode_into_encodes, encode_into_unwritten}
use Rattle.pkcs1.specs.Words.{IsPrivateKey, PrivateIsWritten, PrivateSpells, held_private_key, private_key_with, private_shortest}
use Rattle.pkcs1.proofs.NumberKeys.{number_key_encodes, number_key_written}
use Rattle.pkcs1_params.specs.Words.{encodes_as, unwritten_of_same_encodings}
use Rattle.standard.specs.Statement.{PrivateKeyEncoding}
use Rattle.pkcs1.proofs.private_key.der.RsaPrivateKey+U.encode_key.Goals as goal

-- `encode_into` returned a length, `field-0`. In front of the slice is the shortest encoding of the key.
pub returns-clause-written : goal.returns-clause-written
returns-clause-written g c =
    let e = g.U.Encoding in
    let key = c.args.self.now in
    let number = g.U.AsUintRef.number in
    let same = number_key_encodes e.valid e.printed e.means e.value number g.met.U.UintEncoding.encodes_number e.shortest key in
    let made = c.in_ok-encode_into.ensures in
    encodes_as (PrivateSpells e.valid e.printed e.means) PrivateKeyEncoding (private_key_with e.value key)
    (held_private_key number key) same c.args.out.now _ (Some c.in_ok-encode_into.field-0)
    (encode_into_encodes (tagged_shortest (private_shortest e.shortest) 48) _ c.args.out.now _
    (Ok c.in_ok-encode_into.field-0) made.ok made.shortest tt tt c.encode_into.auto.out)

-- At the `?` behind `encode_into`, whose error is `field-0.0`. The slice is as it was. `p.1` says that the result is an
-- error, `p.2` that it is this one in `Asn1`.
pub returns-in_err-encode_into-clause-written : goal.returns-in_err-encode_into-clause-written
returns-in_err-encode_into-clause-written g c =
    let e = g.U.Encoding in
    let key = c.args.self.now in
    let number = g.U.AsUintRef.number in
    let same = number_key_encodes e.valid e.printed e.means e.value number g.met.U.UintEncoding.encodes_number e.shortest key in
    let p = err_from_is_err_and c.from_residual-in_err-encode_into.result c.from_residual-in_err-encode_into.ensures.1 in
    let told = c.in_err-encode_into.ensures in
    rw p.1 (encodes_as (PrivateSpells e.valid e.printed e.means) PrivateKeyEncoding (private_key_with e.value key)
    (held_private_key number key) same c.args.out.now _ None
    (encode_into_encodes (tagged_shortest (private_shortest e.shortest) 48) _ c.args.out.now _
    (Err c.in_err-encode_into.field-0.0) tt tt told.err told.unchanged c.encode_into.auto.out))

-- There too: the reason why `encode_into` wrote nothing is one of those that `Refuses` has. `number_key_written` says
-- that a key is valid for U exactly if `IsPrivateKey` holds.
pub returns-in_err-encode_into-clause-err : goal.returns-in_err-encode_into-clause-err
returns-in_err-encode_into-clause-err g c =
    let e = g.U.Encoding in
    let key = c.args.self.now in
    let number = g.U.AsUintRef.number in
    let law = g.met.U.UintEncoding.encodes_number in
    let p = err_from_is_err_and c.from_residual-in_err-encode_into.result c.from_residual-in_err-encode_into.ensures.1 in
    rw (p.1, p.2) (unwritten_of_same_encodings (PrivateSpells e.valid e.printed e.means) PrivateKeyEncoding
    (private_key_with e.value key) (held_private_key number key)
    (number_key_encodes e.valid e.printed e.means e.value number law e.shortest key)
    (PrivateIsWritten e.valid e.written) IsPrivateKey
    (number_key_written e.valid e.printed e.means e.value number law e.shortest key) (length c.args.out.now) _
    (encode_into_unwritten (tagged_shortest (private_shortest e.shortest) 48) _ {X = ℕ} _
    (Err c.in_err-encode_into.field-0.0) c.in_err-encode_into.ensures.err))
