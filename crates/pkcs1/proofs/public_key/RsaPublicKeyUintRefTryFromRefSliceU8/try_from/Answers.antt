-- `try_from` of `TryFrom<&[u8]>` for `RsaPublicKey<UintRef>`. It calls `from_der`, whose clause `exact` says what the
-- function `whole public_read` gives of the bytes. `public_stated` says the key in the words of the statement.
use Rattle.std.proofs.Common.{rules}
use Rattle.der_core.specs.Words.{err_from_is_err_and, are_bytes, whole}
use Rattle.pkcs1.specs.Words.{public_decodes, public_read, public_stated}
use Rattle.pkcs1.proofs.KeyReads.{made_reading_fault, reading_decodes_none, reading_decodes_some}
use Rattle.pkcs1.proofs.KeyMemory.{none_in_public}
use Rattle.der_core.proofs.ReadSteps.{fault_without_memory}
use Rattle.standard.specs.Statement.{PublicKeyEncoding}
use Rattle.pkcs1.proofs.public_key.RsaPublicKeyUintRefTryFromRefSliceU8.try_from.Goals as goal

-- `public_decodes` says of the function that the bytes encode what it gives, and no other key.
pub returns-clause-read : goal.returns-clause-read
returns-clause-read c =
    reading_decodes_some public_stated (whole public_read) PublicKeyEncoding public_decodes c.args.bytes.now
    (are_bytes c.args.bytes.now (search rules)) _ c.in_ok-from_der.ensures.exact

-- At the `?` behind `from_der`: the function gives this error. It isn't that memory ran out: `w` would say that bytes
-- in front ask for memory, and `w.3` that they are a SEQUENCE whose contents do, but borrowed numbers ask for none.
-- `p.1` says that the result is an error, `p.2` that it is this one in `Asn1`.
pub returns-in_err-from_der-clause-exact : goal.returns-in_err-from_der-clause-exact
returns-in_err-from_der-clause-exact c =
    let p = err_from_is_err_and c.from_residual.result c.from_residual.ensures.1 in
    rw (p.1, p.2) (made_reading_fault public_stated (whole public_read) c.args.bytes.now _
    (fault_without_memory (λ w. none_in_public w.3.contents w.3.holds) c.in_err-from_der.ensures.exact))

-- There too: so the bytes encode no key.
pub returns-in_err-from_der-clause-read : goal.returns-in_err-from_der-clause-read
returns-in_err-from_der-clause-read c =
    let p = err_from_is_err_and c.from_residual.result c.from_residual.ensures.1 in
    rw p.1 (reading_decodes_none public_stated (whole public_read) PublicKeyEncoding public_decodes c.args.bytes.now
    (are_bytes c.args.bytes.now (search rules)) _
    (fault_without_memory (λ w. none_in_public w.3.contents w.3.holds) c.in_err-from_der.ensures.exact))
