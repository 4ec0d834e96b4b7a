-- `from_octet_string` of `RsaPrivateKey<U>`. It calls `from_der` on the bytes of the OCTET STRING, and `as_bytes` says
-- which these are.
use Rattle.der_core.specs.Words.{err_from_is_err_and}
use Rattle.pkcs1.proofs.KeyMemory.{two_primes_rejected}
use Rattle.pkcs1.proofs.private_key.der.RsaPrivateKey+U.from_octet_string.Goals as goal

-- What `from_der` says of these bytes is what is asked of the octets.
pub returns-clause-ok : goal.returns-clause-ok
returns-clause-ok g c = rw (← c.as_bytes.ensures.octets) c.in_ok-from_der.ensures.encoding

-- At the `?` behind `from_der`: its error is handed on. `p.1` says that the result is an error, `p.2` that it is this
-- one in `Asn1`.
pub returns-in_err-from_der-clause-err : goal.returns-in_err-from_der-clause-err
returns-in_err-from_der-clause-err g c =
    let p = err_from_is_err_and c.from_residual.result c.from_residual.ensures.1 in
    rw (p.1, p.2, ← c.as_bytes.ensures.octets) c.in_err-from_der.ensures.encoding

-- There too, but it isn't reached: the octets encode a key of two primes, whose numbers need no memory, and `from_der`
-- doesn't reject those.
pub returns-in_err-from_der-clause-two_primes : goal.returns-in_err-from_der-clause-two_primes
returns-in_err-from_der-clause-two_primes g c none key two spelled =
    absurd (two_primes_rejected g.U.Encoding.law g.U.Encoding.means g.U.Decode.may_allocate key two none _ _
    (rw (← c.as_bytes.ensures.octets) at spelled) c.in_err-from_der.ensures.encoding)

-- There too: the function of the octets gives this error, or memory ran out.
pub returns-in_err-from_der-clause-exact : goal.returns-in_err-from_der-clause-exact
returns-in_err-from_der-clause-exact g c =
    let p = err_from_is_err_and c.from_residual.result c.from_residual.ensures.1 in
    rw (p.1, p.2, ← c.as_bytes.ensures.octets) c.in_err-from_der.ensures.exact
