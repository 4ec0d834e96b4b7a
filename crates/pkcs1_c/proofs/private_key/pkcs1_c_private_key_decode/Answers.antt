-- `pkcs1_c_private_key_decode`: struct and list hold the key, or the status is that of the first fault.
use Rattle.pkcs1.specs.Words.{private_tells, rsa_private_key}
use Rattle.pkcs1_c.proofs.Writes.{status_exact}
use Rattle.pkcs1_c.proofs.private_key.pkcs1_c_private_key_decode.Goals as goal

-- The status is the number of the error. Each fault of a key is about the bytes, so it is neither 0 nor above 14.
pub returns-in-Err-clause-exact : goal.returns-in-Err-clause-exact
returns-in-Err-clause-exact c =
    status_exact (rsa_private_key c.args.encoding.now) (private_tells c.args.encoding.now)
    c.in-Err.error _ c.status.ensures c.in-Err.ensures.exact
