-- `from_pkcs1_der` of `DecodeRsaPublicKey` for `RsaPublicKey<Uint>`. It calls `from_der`, whose clause `exact` says
-- what the function `whole public_read` gives of the bytes. `public_stated` says the key in the words of the statement.
use Rattle.std.proofs.Common.{rules}
use Rattle.der_core.specs.Words.{err_from_is_err_and, are_bytes, whole}
use Rattle.pkcs1.specs.Words.{public_decodes, public_read, public_stated, public_tells}
use Rattle.pkcs1.proofs.KeyReads.{made_reading_faulty, read_rejected, reading_decodes_some}
use Rattle.pkcs1.proofs.KeyMemory.{owned_parts_ask, faulty_as}
use Rattle.standard.specs.Statement.{PublicKeyEncoding}
use Rattle.pkcs1.proofs.traits.RsaPublicKeyUintDecodeRsaPublicKey.from_pkcs1_der.Goals as goal

-- `public_decodes` says of the function that the bytes encode what it gives, and no other key.
pub returns-clause-ok : goal.returns-clause-ok
returns-clause-ok c =
    reading_decodes_some public_stated (whole public_read) PublicKeyEncoding public_decodes c.args.bytes.now
    (are_bytes c.args.bytes.now (search rules)) _ c.in_ok-from_der.ensures.exact

-- At the `?` behind `from_der`: the bytes encode no key, or memory ran out. `owned_parts_ask` says that memory is only
-- asked for if the contents begin with a number. `p.1` says that the result is an error, `p.2` that it is this one in
-- `Asn1`.
pub returns-in_err-from_der-clause-err : goal.returns-in_err-from_der-clause-err
returns-in_err-from_der-clause-err c =
    let p = err_from_is_err_and c.from_residual.result c.from_residual.ensures.1 in
    rw (p.1, p.2) (read_rejected public_stated (whole public_read) PublicKeyEncoding public_decodes c.args.bytes.now
    (are_bytes c.args.bytes.now (search rules)) public_tells _ _
    (faulty_as owned_parts_ask _ _ c.in_err-from_der.ensures.exact))

-- There too: the function gives this error, or memory ran out.
pub returns-in_err-from_der-clause-exact : goal.returns-in_err-from_der-clause-exact
returns-in_err-from_der-clause-exact c =
    let p = err_from_is_err_and c.from_residual.result c.from_residual.ensures.1 in
    rw (p.1, p.2) (made_reading_faulty public_stated (whole public_read) c.args.bytes.now _ _
    (faulty_as owned_parts_ask _ _ c.in_err-from_der.ensures.exact))
