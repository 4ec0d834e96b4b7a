-- RSA keys in containers.
use Rattle.std.specs.Prelude.{ℕ, List, ◌≡◌}
use Rattle.standard.specs.Statement.{Container, PrivateKey, PrivateKeyEncoding}
-- rsaEncryption with NULL (RFC 8017 A.1).
pub use Rattle.standard.specs.Statement.{rsa_encryption}

-- The algorithm of the container is rsaEncryption, and the octets encode this key.
abbrev pub ContainedKey : Container → PrivateKey → List ℕ → Type 0
ContainedKey c key octets = (c.algorithm ≡ rsa_encryption) × PrivateKeyEncoding key octets
