-- `pkcs1_c_public_key_decode`: the struct holds the key, or the status is that of the first fault.
use Rattle.pkcs1.specs.Words.{public_tells, held_public_key, rsa_public_key}
use Rattle.der_core.specs.Words.{bytes_of}
use Rattle.pkcs1_c.proofs.HeldKeys.{octets_held}
use Rattle.pkcs1_c.proofs.Writes.{status_exact}
use Rattle.pkcs1_c.proofs.public_key.pkcs1_c_public_key_decode.Goals as goal

-- The key is the one that was read. The two calls of `as_bytes` give the octets of its modulus and of its exponent.
pub returns-in-Ok-clause-ok : goal.returns-in-Ok-clause-ok
returns-in-Ok-clause-ok c =
    λ _. rw (c.as_bytes-key.ensures.number, c.as_bytes-key-in-Ok.ensures.number) (
      held_public_key bytes_of c.in-Ok.read,
      c.in-Ok.ensures.read,
      (octets_held c.in-Ok.read.modulus, octets_held c.in-Ok.read.public_exponent),
    )

-- The status is the number of the error. Each fault of a key is about the bytes, so it is neither 0 nor above 14.
pub returns-in-Err-clause-exact : goal.returns-in-Err-clause-exact
returns-in-Err-clause-exact c =
    status_exact (rsa_public_key c.args.encoding.now) (public_tells c.args.encoding.now) c.in-Err.error _
    c.status.ensures c.in-Err.ensures.exact
