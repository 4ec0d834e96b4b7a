-- `publish` writes the public half of the key that it read.
use Rattle.std.proofs.Common.{List, OnOk, Result, Ok, Err, ℕ, ◌≡◌, subst}
use Rattle.der_core.specs.Words.{IsDocument, bytes_of, own_bytes_of}
use Rattle.pkcs1.specs.Words.{held_private_key, held_public_key}
use Rattle.standard.specs.Statement.{IsShortest, PrivateKey, PrivateKeyEncoding, PublicKey, PublicKeyEncoding}
use Rattle.examples.specs.Keys.{public_half_of}
use Rattle.examples.proofs.files.publish.Goals as goal

-- What took the encoding of a key with the numbers of the public half took that of the half.
half_taken : {T E : Type 0} (Gives Takes : List ℕ → Type 0) (key : PrivateKey) (half : PublicKey)
    → half ≡ public_half_of key
    → (bytes : List ℕ) × Gives bytes × IsDocument bytes × PrivateKeyEncoding key bytes → (result : Result T E)
    → OnOk result ((bytes : List ℕ) × Takes bytes × IsDocument bytes × IsShortest PublicKeyEncoding half bytes)
    → OnOk result ((key : PrivateKey) × (read : List ℕ) × (written : List ℕ) × Gives read
    × PrivateKeyEncoding key read × Takes written × IsShortest PublicKeyEncoding (public_half_of key) written)
half_taken Gives Takes key half is (read, gives, _, holds) (Ok done) (written, takes, _, shortest) =
    (key, read, written, gives, holds, takes, subst (λ one. IsShortest PublicKeyEncoding one written) is shortest)
half_taken Gives Takes key half is given (Err e) wrote = tt

-- At the end: `read_pkcs1_der_file` has read the key, and `write_pkcs1_der_file` says what took the encoding of its
-- half.
pub returns-clause-published : goal.returns-clause-published
returns-clause-published g c =
    half_taken _ _ (held_private_key own_bytes_of c.in_ok-key.key) (held_public_key bytes_of c.public_key.result)
    c.public_key.ensures c.in_ok-key.ensures.read c.write_pkcs1_der_file.result c.write_pkcs1_der_file.ensures.written
