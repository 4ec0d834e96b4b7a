-- `rsa_private_key_info bytes` is the RSA key in the container, or the kind of the first fault. `told` says that the
-- call returned this.
use Rattle.std.proofs.Common.{refl, rules}
use Rattle.der_core.specs.Words.{are_bytes}
use Rattle.spki_core.specs.Words.{identifier_octets}
use Rattle.pkcs1.specs.Words.{held_view}
use Rattle.pkcs1_params.specs.Words.{answers_asn1_behind, answers_asn1_decode, AnswersAsn1}
use Rattle.pkcs8_core.proofs.ContainedKeys.{contained_keys_decode, viewed_in}
use Rattle.pkcs8_core.specs.Words.{private_key_info, rsa_held, rsa_private_key_info, info_in}
use Rattle.standard.specs.Statement.{ContainedKeyEncoding}
use Rattle.pkcs8_core.proofs.rsa.rsa_from_pkcs8_der.Goals as goal

-- At the end: the container was read, so what `rsa_view` says of it holds of the bytes.
pub returns-clause-read : goal.returns-clause-read
returns-clause-read c =
    let bytes = c.args.bytes.now in
    let are = are_bytes bytes (search rules) in
    let told =
    answers_asn1_behind held_view (private_key_info bytes) rsa_held (info_in identifier_octets c.in_ok-info.info)
    c.in_ok-info.ensures.exact c.rsa_view.result c.rsa_view.ensures.exact in
    answers_asn1_decode ContainedKeyEncoding bytes held_view (rsa_private_key_info bytes)
    (contained_keys_decode bytes are)
    c.rsa_view.result told

-- At the `?` behind `try_from`: bytes that encode no container encode none of an RSA key, and the fault is the same.
pub returns-in_err-info-clause-read : goal.returns-in_err-info-clause-read
returns-in_err-info-clause-read c =
    let bytes = c.args.bytes.now in
    let are = are_bytes bytes (search rules) in
    let told : AnswersAsn1 held_view (rsa_private_key_info bytes) c.from_residual.result = search rules in
    answers_asn1_decode ContainedKeyEncoding bytes held_view (rsa_private_key_info bytes)
    (contained_keys_decode bytes are)
    c.from_residual.result told

-- At the end: the container is the one that was read, and the view keeps the octets of its key.
pub returns-clause-bytes : goal.returns-clause-bytes
returns-clause-bytes c =
    let info = info_in identifier_octets c.in_ok-info.info in
    viewed_in info c.args.bytes.now info.private_key c.in_ok-info.ensures.read.0 refl c.rsa_view.result
    c.rsa_view.ensures.bytes
