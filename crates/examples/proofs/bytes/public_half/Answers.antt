-- `public_half` gives the shortest encoding of the half of the key that it read, or why there is none.
use Rattle.std.proofs.Common.{ℕ, List, ◌≡◌, ◌⊎◌, inr, subst, Result, Ok, Err, Some, IfOk, IfErr}
use Rattle.der_core.specs.Words.{encoding_of, bytes_of}
use Rattle.der_core.specs.declared.document.DocumentOf.{DocumentOf}
use Rattle.der_core.specs.declared.document.Open.{Open}
use Rattle.pkcs1.specs.Words.{held_private_key, held_public_key, Withholds}
use Rattle.pkcs1_params.specs.declared.error.Error.{Error}
use Rattle.standard.specs.Statement.{Decodes, IsShortest, PrivateKey, PrivateKeyEncoding, PublicKey, PublicKeyEncoding}
use Rattle.examples.specs.Keys.{public_half_of}
use Rattle.examples.proofs.bytes.public_half.Goals as goal

-- What is said of a key with the numbers of the public half is said of that half.
module _ (key : PrivateKey) (half : PublicKey) (is : half ≡ public_half_of key) (encoding : List ℕ)
    (decodes : Decodes PrivateKeyEncoding encoding (Some key)) where
  half_decodes : (result : Result (DocumentOf Open) Error)
      → IfOk result (λ document. IsShortest PublicKeyEncoding half (encoding_of document))
      → IfOk result (λ document. (other : PrivateKey) × Decodes PrivateKeyEncoding encoding (Some other)
      × IsShortest PublicKeyEncoding (public_half_of other) (encoding_of document))
  half_decodes (Ok document) shortest =
      (key, decodes, subst (λ one. IsShortest PublicKeyEncoding one (encoding_of document)) is shortest)
  half_decodes (Err e) shortest = tt

  half_withheld : (Before : Error → Type 0) (result : Result (DocumentOf Open) Error)
      → IfErr result (Withholds (λ _. Unit {0}) PublicKeyEncoding half)
      → IfErr result (λ e. Before e ⊎ ((other : PrivateKey) × Decodes PrivateKeyEncoding encoding (Some other)
      × Withholds (λ _. Unit {0}) PublicKeyEncoding (public_half_of other) e))
  half_withheld Before (Ok document) why = tt
  half_withheld Before (Err e) why =
      inr (key, decodes, subst (λ one. Withholds (λ _. Unit {0}) PublicKeyEncoding one e) is why)

-- `decode_key` has read the key. `to_pkcs1_der` has written its half.
pub returns-clause-ok : goal.returns-clause-ok
returns-clause-ok c =
    half_decodes (held_private_key bytes_of c.in_ok-key.key) (held_public_key bytes_of c.public_key.result)
    c.public_key.ensures c.args.encoding.now c.in_ok-key.ensures.ok c.to_pkcs1_der.result
    c.to_pkcs1_der.ensures.encoding

-- The error of the last call: `decode_key` has read the key, and `to_pkcs1_der` says why its half isn't written.
pub returns-clause-err : goal.returns-clause-err
returns-clause-err c =
    half_withheld (held_private_key bytes_of c.in_ok-key.key) (held_public_key bytes_of c.public_key.result)
    c.public_key.ensures c.args.encoding.now c.in_ok-key.ensures.ok _ c.to_pkcs1_der.result
    c.to_pkcs1_der.ensures.err
