-- `decoded` says of what `read_borrowed` returned that the bytes encode it by the grammar, with any algorithm.
use Rattle.std.proofs.Common.{ap, Ok, Err}
use Rattle.der_core.specs.Words.{decodes_stated, err_from_is_err_and, ◌>>=◌}
use Rattle.spki_keys.proofs.KeyInfos.{key_info_law, no_key_read, other_key_not_read, refused_is_another, rsa_key_read, rsa_key_told}
use Rattle.spki_keys.specs.KeyInfo.{rsa_key_in}
use Rattle.spki_keys.proofs.rsa.key_from_info.Goals as goal

-- At the `?` behind `read_borrowed`: what encodes no key with an algorithm encodes none with rsaEncryption, and the
-- fault is the same.
pub returns-in_err-info-clause-read : goal.returns-in_err-info-clause-read
returns-in_err-info-clause-read c =
    let p = err_from_is_err_and c.from_residual.result c.from_residual.ensures.1 in
    let decoded =
    decodes_stated key_info_law _ c.args.bytes.now c.read_borrowed.result c.read_borrowed.ensures.read in
    rw p.1 (no_key_read c.args.bytes.now (rw c.in_err-info.was at decoded))

pub returns-in_err-info-clause-exact : goal.returns-in_err-info-clause-exact
returns-in_err-info-clause-exact c =
    let p = err_from_is_err_and c.from_residual.result c.from_residual.ensures.1 in
    rw (p.1, p.2) (ap (λ r. r >>= rsa_key_in) c.in_err-info.ensures.exact)

-- At the `?` behind `require_rsa_encryption`: the algorithm is another one, and this is its fault.
pub returns-in_err-require_rsa_encryption-clause-read : goal.returns-in_err-require_rsa_encryption-clause-read
returns-in_err-require_rsa_encryption-clause-read c =
    let last = c.from_residual-in_err-require_rsa_encryption in
    let p = err_from_is_err_and last.result last.ensures.1 in
    let decoded =
    decodes_stated key_info_law _ c.args.bytes.now c.read_borrowed.result c.read_borrowed.ensures.read in
    let differs = refused_is_another _ _ c.in_err-require_rsa_encryption.ensures.exact in
    rw p.1 (other_key_not_read c.args.bytes.now _ differs (rw c.in_ok-info.was at decoded))

pub returns-in_err-require_rsa_encryption-clause-exact : goal.returns-in_err-require_rsa_encryption-clause-exact
returns-in_err-require_rsa_encryption-clause-exact c =
    let last = c.from_residual-in_err-require_rsa_encryption in
    let p = err_from_is_err_and last.result last.ensures.1 in
    rw (p.1, p.2) (rsa_key_told c.args.bytes.now _ (Err _) c.in_ok-info.ensures.exact
    c.in_err-require_rsa_encryption.ensures.exact)

-- At the end: it is rsaEncryption with NULL.
pub returns-clause-read : goal.returns-clause-read
returns-clause-read c =
    let decoded =
    decodes_stated key_info_law _ c.args.bytes.now c.read_borrowed.result c.read_borrowed.ensures.read in
    let rsa = c.in_ok-require_rsa_encryption.ensures.ok in
    rsa_key_read c.args.bytes.now _ rsa (rw c.in_ok-info.was at decoded)

pub returns-clause-exact : goal.returns-clause-exact
returns-clause-exact c =
    rsa_key_told c.args.bytes.now _ (Ok tt) c.in_ok-info.ensures.exact c.in_ok-require_rsa_encryption.ensures.exact
