-- What was written of rsaEncryption with NULL and the key was written of the key, or wasn't for the same reason.
use Rattle.std.proofs.Common.{ℕ, ◌≡◌, IfErr, Result, Ok, Err}
use Rattle.der_core.specs.declared.error.Error.{Error}
use Rattle.der_core.specs.Words.{Unwritten, bytes_of, encode_error, encodes_stated, unwritten_stated}
use Rattle.spki_core.specs.Words.{algorithm_of}
use Rattle.pkcs1.specs.Words.{held_public_key}
use Rattle.spki_keys.proofs.KeyInfos.{KeyInfo, KeyInfoEncoding, key_info_law, rsa_key_unwritten, rsa_key_written}
use Rattle.spki_keys.specs.KeyInfo.{RsaKeyInfoEncoding}
use Rattle.standard.specs.Statement.{IsAlgorithm, IsAny, rsa_encryption}
use Rattle.spki_keys.proofs.rsa.key_to_info.Goals as goal

pub returns-clause-written : goal.returns-clause-written
returns-clause-written c =
    let old = c.args.out.now in
    let new = c.write_only.new.out in
    let written = encodes_stated key_info_law _ old new _ c.write_only.ensures.written in
    let info : KeyInfo =
    record { algorithm = algorithm_of c.algorithm_id.result; key = held_public_key bytes_of c.args.key.now } in
    rsa_key_written info old new _ c.algorithm_id.ensures written

unwritten : {X : Type 0} (v : KeyInfo) (room : ℕ) (r : Result X Error) → v.algorithm ≡ rsa_encryption
    → IfErr r (λ e. Unwritten (λ w. IsAlgorithm IsAny w.algorithm) KeyInfoEncoding v room (encode_error e.kind))
    → IfErr r (λ e. Unwritten (λ _. Unit {0}) RsaKeyInfoEncoding v.key room (encode_error e.kind))
unwritten v room (Ok x) rsa h = tt
unwritten v room (Err e) rsa h = rsa_key_unwritten v room (encode_error e.kind) rsa h

pub returns-clause-err : goal.returns-clause-err
returns-clause-err c =
    let info : KeyInfo =
    record { algorithm = algorithm_of c.algorithm_id.result; key = held_public_key bytes_of c.args.key.now } in
    unwritten info _ c.write_only.result c.algorithm_id.ensures
    (unwritten_stated key_info_law _ _ c.write_only.result c.write_only.ensures.err)
