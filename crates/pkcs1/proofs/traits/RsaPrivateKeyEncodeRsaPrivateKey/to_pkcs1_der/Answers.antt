-- `to_pkcs1_der` of `EncodeRsaPrivateKey` for `RsaPrivateKey<U>`. It calls `encode_msg`, which speaks of the encodings
-- that U states. `number_key_encodes` says that they are those of `PrivateKeyEncoding`, for the key that the numbers of
-- U mean.
use Rattle.der_core.specs.Words.{err_from_is_err_and, tagged_shortest}
use Rattle.pkcs1.specs.Words.{IsPrivateKey, PrivateIsWritten, PrivateSpells, held_private_key, private_key_with, private_shortest}
use Rattle.pkcs1.proofs.NumberKeys.{number_key_encodes, number_key_written}
use Rattle.pkcs1.proofs.WritingStated.{unencoded_unmade, unmade_carried}
use Rattle.pkcs1_params.specs.Words.{shortest_as}
use Rattle.standard.specs.Statement.{PrivateKeyEncoding}
use Rattle.pkcs1.proofs.traits.RsaPrivateKeyEncodeRsaPrivateKey.to_pkcs1_der.Goals as goal

-- The document holds the shortest encoding that U states, so the shortest of the key.
pub returns-clause-encoding : goal.returns-clause-encoding
returns-clause-encoding g c =
    let e = g.U.Encoding in
    let key = c.args.self.now in
    let number = g.U.AsUintRef.number in
    shortest_as (PrivateSpells e.valid e.printed e.means) PrivateKeyEncoding (private_key_with e.value key)
    (held_private_key number key)
    (number_key_encodes e.valid e.printed e.means e.value number g.met.U.UintEncoding.encodes_number e.shortest key) _
    c.in_ok-encode_msg.ensures.holds.2

-- At the `?` behind `encode_msg`: why it made no document of what U states is why there is none of the key. `p.1` says
-- that the result is an error, `p.2` that it is this one in `Asn1`.
pub returns-in_err-encode_msg-clause-err : goal.returns-in_err-encode_msg-clause-err
returns-in_err-encode_msg-clause-err g c =
    let e = g.U.Encoding in
    let key = c.args.self.now in
    let number = g.U.AsUintRef.number in
    let law = g.met.U.UintEncoding.encodes_number in
    let p = err_from_is_err_and c.from_residual-in_err-encode_msg.result c.from_residual-in_err-encode_msg.ensures.1 in
    rw (p.1, p.2) (unmade_carried (PrivateIsWritten e.valid e.written) (PrivateSpells e.valid e.printed e.means)
    IsPrivateKey PrivateKeyEncoding (private_key_with e.value key) (held_private_key number key)
    (number_key_written e.valid e.printed e.means e.value number law e.shortest key)
    (number_key_encodes e.valid e.printed e.means e.value number law e.shortest key) _ _
    (unencoded_unmade (tagged_shortest (private_shortest e.shortest) 48) _ _ c.in_err-encode_msg.ensures.holds))
