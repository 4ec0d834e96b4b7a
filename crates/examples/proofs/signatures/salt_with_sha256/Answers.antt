-- The parameters are those that were read. `uses_hash` decides whether they use SHA-256.
use Rattle.std.proofs.Common.{refl}
use Rattle.std.proofs.lemmas.Bool.Decides.{not_from_Decides}
use Rattle.pkcs1_params.specs.Words.{pss_of}
use Rattle.examples.proofs.signatures.salt_with_sha256.Goals as goal

-- They don't, so no salt length is given.
pub returns-then-not-uses_hash-clause-ok : goal.returns-then-not-uses_hash-clause-ok
returns-then-not-uses_hash-clause-ok c =
    (pss_of c.in_ok-params.params, c.in_ok-params.ensures.read, not_from_Decides _ c.if-not-uses_hash.ensures refl)

-- They do, so theirs is given.
pub returns-clause-ok : goal.returns-clause-ok
returns-clause-ok c =
    (pss_of c.in_ok-params.params, c.in_ok-params.ensures.read, (c.if-not-uses_hash.ensures.0 refl, refl))
