-- `decode_key` of `RsaPrivateKey<UintRef>`. It calls `from_der`, whose clause `exact` says what the function
-- `whole_private_key` gives of the bytes. `private_stated` says the key in the words of the statement.
use Rattle.std.proofs.Common.{rules}
use Rattle.der_core.specs.Words.{err_from_is_err_and, are_bytes}
use Rattle.pkcs1.specs.Words.{number_front, private_decodes, private_stated, whole_private_key, private_tells}
use Rattle.pkcs1.proofs.KeyReads.{made_reading_faulty, made_reading_ok, read_rejected, reading_decodes_some}
use Rattle.pkcs1.proofs.KeyMemory.{borrowed_ask, borrowed_key_asks, faulty_as, two_primes_read}
use Rattle.standard.specs.Statement.{PrivateKeyEncoding}
use Rattle.pkcs1.proofs.private_key.der.RsaPrivateKey+UintRef.decode_key.Goals as goal

-- The key that was read is the one that the function gives.
pub returns-clause-exact : goal.returns-clause-exact
returns-clause-exact c =
    made_reading_ok private_stated (whole_private_key number_front) c.args.bytes.now _ c.in_ok-from_der.ensures.exact

-- `private_decodes` says of the function that the bytes encode what it gives, and no other key.
pub returns-clause-ok : goal.returns-clause-ok
returns-clause-ok c =
    reading_decodes_some private_stated
    (whole_private_key number_front) PrivateKeyEncoding private_decodes c.args.bytes.now
    (are_bytes c.args.bytes.now (search rules)) _ c.in_ok-from_der.ensures.exact

-- At the `?` behind `from_der`: the bytes encode no key, or memory ran out. `borrowed_key_asks` says that memory is
-- only asked for if a SEQUENCE that begins with an OtherPrimeInfo follows the eight numbers. `p.1` says that the result
-- is an error, `p.2` that it is this one in `Asn1`.
pub returns-in_err-from_der-clause-err : goal.returns-in_err-from_der-clause-err
returns-in_err-from_der-clause-err c =
    let p = err_from_is_err_and c.from_residual.result c.from_residual.ensures.1 in
    rw (p.1, p.2) (read_rejected private_stated (whole_private_key number_front) PrivateKeyEncoding private_decodes
    c.args.bytes.now
    (are_bytes c.args.bytes.now (search rules)) private_tells _ _
    (faulty_as borrowed_key_asks _ _ c.in_err-from_der.ensures.exact))

-- There too, but it isn't reached: the bytes encode a key of two primes, which is read without memory.
pub returns-in_err-from_der-clause-two_primes : goal.returns-in_err-from_der-clause-two_primes
returns-in_err-from_der-clause-two_primes c key two encoded =
    absurd (two_primes_read key two c.args.bytes.now encoded _ borrowed_ask _ c.in_err-from_der.ensures.encoding)

-- There too: the function gives this error, or memory ran out.
pub returns-in_err-from_der-clause-exact : goal.returns-in_err-from_der-clause-exact
returns-in_err-from_der-clause-exact c =
    let p = err_from_is_err_and c.from_residual.result c.from_residual.ensures.1 in
    rw (p.1, p.2) (made_reading_faulty private_stated (whole_private_key number_front) c.args.bytes.now _ _
    (faulty_as borrowed_key_asks _ _ c.in_err-from_der.ensures.exact))
