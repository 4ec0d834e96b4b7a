-- `uses_hash-2` is the second call of `uses_hash`, which asks for SHA-384. After Ok the parameters are those that were
-- read, and what is returned decides whether they are accepted.
use Rattle.std.proofs.Common.{rules}
use Rattle.pkcs1_params.specs.Words.{pss_of}
use Rattle.standard.specs.Decided.{no_value_decides, value_decides}
use Rattle.standard.specs.Statement.{PssAlgorithmEncoding}
use Rattle.examples.specs.Signatures.{IsAccepted}
use Rattle.examples.proofs.signatures.is_accepted.Goals as goal

-- SHA-256 with a salt of 32 octets: true.
pub returns-then-params-eq32 : goal.returns-then-params-eq32
returns-then-params-eq32 c =
    value_decides PssAlgorithmEncoding IsAccepted _ (pss_of c.in-Ok.params) _ c.in-Ok.ensures.read (search rules)

-- SHA-384: whether the salt has 48 octets.
pub returns-then-uses_hash-2 : goal.returns-then-uses_hash-2
returns-then-uses_hash-2 c =
    value_decides PssAlgorithmEncoding IsAccepted _ (pss_of c.in-Ok.params) _ c.in-Ok.ensures.read (search rules)

-- Not SHA-256 with that salt, and not SHA-384: false.
pub returns-else-uses_hash-2 : goal.returns-else-uses_hash-2
returns-else-uses_hash-2 c =
    value_decides PssAlgorithmEncoding IsAccepted _ (pss_of c.in-Ok.params) _ c.in-Ok.ensures.read (search rules)

-- There are no parameters, so none that are accepted.
pub returns-in-Err : goal.returns-in-Err
returns-in-Err c = no_value_decides PssAlgorithmEncoding IsAccepted _ c.in-Err.ensures.read
