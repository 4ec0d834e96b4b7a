-- Worked rows of `Rsa.antt` of `pkcs8_core`: which key a container holds.
use Rattle.std.proofs.Common.{List, ℕ, ◌≡◌}
use Rattle.std.specs.Prelude.{◌↔◌}
use Rattle.pkcs8_core.specs.Rsa.{ContainedKey}
use Rattle.standard.specs.Statement.{Container, PrivateKey, PrivateKeyEncoding, rsa_encryption}

contained_key_says : (c : Container) (key : PrivateKey) (octets : List ℕ) → ContainedKey c key octets
    ↔ ((c.algorithm ≡ rsa_encryption) × PrivateKeyEncoding key octets)
contained_key_says c key octets = (λ p. p, λ p. p)
