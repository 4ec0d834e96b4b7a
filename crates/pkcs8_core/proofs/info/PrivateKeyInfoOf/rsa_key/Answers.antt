-- `info` is the container that `self` holds, and `rsa_held info` is the RSA key in it, or the kind of its first fault.
-- `told` says that the call returned this, or that memory ran out where it may be asked for.
use Rattle.std.proofs.Common.{◌≡◌, rules, subst, sym}
use Rattle.der_core.specs.Words.{are_bytes, bytes_of}
use Rattle.pkcs1.specs.Words.{MayAllocate, held_private_key}
use Rattle.pkcs1_params.specs.Words.{AnswersAsn1OrAsks}
use Rattle.pkcs8_core.proofs.ContainedKeys.{rsa_held_asked, rsa_held_err, rsa_held_ok}
use Rattle.pkcs8_core.specs.Words.{rsa_held, info_in, rsa_encryption}
use Rattle.standard.specs.Statement.{PrivateKeyEncoding}
use Rattle.pkcs8_core.proofs.info.PrivateKeyInfoOf.rsa_key.Goals as goal

-- At the end: the algorithm is rsaEncryption with NULL, so what `decode_key` says of the octets holds of the container.
pub returns-clause-ok : goal.returns-clause-ok
returns-clause-ok g c =
    let info = info_in g.O.IdentifierValue.octets c.args.self.now in
    let told = rsa_held_asked (held_private_key bytes_of) info c.as_bytes.result.now c.as_bytes.ensures.octets
    c.in_ok-require_rsa_encryption.ensures.ok c.decode_key.result c.decode_key.ensures.exact in
    rsa_held_ok (held_private_key bytes_of) info (are_bytes info.private_key c.args.self.now.private_key.octets) _
    c.decode_key.result told

-- The same of its error.
pub returns-clause-err : goal.returns-clause-err
returns-clause-err g c =
    let info = info_in g.O.IdentifierValue.octets c.args.self.now in
    let told = rsa_held_asked (held_private_key bytes_of) info c.as_bytes.result.now c.as_bytes.ensures.octets
    c.in_ok-require_rsa_encryption.ensures.ok c.decode_key.result c.decode_key.ensures.exact in
    rsa_held_err (held_private_key bytes_of) info (are_bytes info.private_key c.args.self.now.private_key.octets) _
    c.decode_key.result told

-- At the `?` behind `require_rsa_encryption`: its error is the fault of the container's algorithm.
pub returns-in_err-require_rsa_encryption-clause-err : goal.returns-in_err-require_rsa_encryption-clause-err
returns-in_err-require_rsa_encryption-clause-err g c =
    let info = info_in g.O.IdentifierValue.octets c.args.self.now in
    let asked : Type 0 = (info.algorithm ≡ rsa_encryption) × MayAllocate info.private_key in
    let told : AnswersAsn1OrAsks (held_private_key bytes_of) (rsa_held info) asked c.from_residual.result =
    search rules in
    rsa_held_err (held_private_key bytes_of) info (are_bytes info.private_key c.args.self.now.private_key.octets) asked
    c.from_residual.result told

-- At the end: `holds.1` is that the octets encode a key, which has two primes. So `decode_key` returned `Ok`.
pub returns-clause-two_primes : goal.returns-clause-two_primes
returns-clause-two_primes g c = λ key two holds.
    c.decode_key.ensures.two_primes key two
    (subst (PrivateKeyEncoding key) (sym c.as_bytes.ensures.octets) holds.1)
