-- Where `from_pkcs1_der` gave a key. `read` is what is known of that call, and `field-0` the key. `key` is what it
-- means, of which the bytes are the only encoding.
use Rattle.der_core.specs.Words.{encoding_of, own_bytes_of}
use Rattle.pkcs1.specs.Words.{OwnedPublicKeyAllocates, held_public_key, rsa_public_key}
use Rattle.pkcs1.proofs.KeyReads.{public_key_at_most_one}
use Rattle.pkcs1.proofs.KeysWritten.{memory_wanted, ok_result_holds, withheld_is_memory}
use Rattle.pkcs1.proofs.reencode.reencode_public_key.Goals as goal

-- The bytes encode the key.
pub returns-clause-encoding : goal.returns-clause-encoding
returns-clause-encoding c =
    let read = c.in_ok-from_pkcs1_der in
    ok_result_holds c.to_pkcs1_der.result (held_public_key own_bytes_of read.field-0, read.ensures.ok.0)

-- A key that has an encoding is withheld only if memory runs out.
pub returns-clause-err : goal.returns-clause-err
returns-clause-err c =
    let read = c.in_ok-from_pkcs1_der in
    let key = held_public_key own_bytes_of read.field-0 in
    withheld_is_memory (λ _. Unit {0}) public_key_at_most_one key tt c.args.bytes.now read.ensures.ok.0 encoding_of
    (OwnedPublicKeyAllocates c.args.bytes.now) c.to_pkcs1_der.result c.to_pkcs1_der.ensures.err

-- So the call gives the bytes that were read, or memory ran out.
pub returns-clause-exact : goal.returns-clause-exact
returns-clause-exact c =
    let read = c.in_ok-from_pkcs1_der in
    let key = held_public_key own_bytes_of read.field-0 in
    memory_wanted (λ _. Unit {0}) public_key_at_most_one key tt c.args.bytes.now read.ensures.ok.0 encoding_of
    (OwnedPublicKeyAllocates c.args.bytes.now) rsa_public_key read.ensures.exact c.to_pkcs1_der.result
    c.to_pkcs1_der.ensures.encoding c.to_pkcs1_der.ensures.err
