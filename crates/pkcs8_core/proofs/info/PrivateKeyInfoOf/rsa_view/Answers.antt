-- `info` is the container that `self` holds, and `rsa_held info` is the RSA key in it, or the kind of its first fault.
-- `told` says that the call returned this.
use Rattle.std.proofs.Common.{rules, subst, sym}
use Rattle.der_core.specs.Words.{are_bytes}
use Rattle.pkcs1.specs.Words.{held_view}
use Rattle.pkcs1_params.specs.Words.{answers_asn1_decode, AnswersAsn1}
use Rattle.pkcs8_core.proofs.ContainedKeys.{contained_decode, rsa_held_read}
use Rattle.pkcs8_core.specs.Words.{rsa_held, info_in, ContainedKey}
use Rattle.pkcs8_core.proofs.info.PrivateKeyInfoOf.rsa_view.Goals as goal

-- At the end: the algorithm is rsaEncryption with NULL, so what `try_from` says of the octets holds of the container.
pub returns-clause-read : goal.returns-clause-read
returns-clause-read g c =
    let info = info_in g.O.IdentifierValue.octets c.args.self.now in
    let told = subst (λ given. AnswersAsn1 held_view given c.try_from.result)
    (sym (rsa_held_read info c.as_bytes.result.now c.as_bytes.ensures.octets c.in_ok-require_rsa_encryption.ensures.ok))
    c.try_from.ensures.exact in
    answers_asn1_decode (ContainedKey info) info.private_key held_view (rsa_held info)
    (contained_decode info info.private_key (are_bytes info.private_key c.args.self.now.private_key.octets))
    c.try_from.result told

-- At the `?` behind `require_rsa_encryption`: its error is the fault of the container's algorithm.
pub returns-in_err-require_rsa_encryption-clause-read : goal.returns-in_err-require_rsa_encryption-clause-read
returns-in_err-require_rsa_encryption-clause-read g c =
    let info = info_in g.O.IdentifierValue.octets c.args.self.now in
    let told : AnswersAsn1 held_view (rsa_held info) c.from_residual.result = search rules in
    answers_asn1_decode (ContainedKey info) info.private_key held_view (rsa_held info)
    (contained_decode info info.private_key (are_bytes info.private_key c.args.self.now.private_key.octets))
    c.from_residual.result told
