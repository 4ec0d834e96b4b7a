-- What is printed of containers, and which of them have an encoding: a row of their parts, as the statement has them.
use Rattle.std.specs.Prelude.{ℕ, List, ◌++◌, ◌<◌}
use Rattle.der_core.specs.Words.{Spells}
use Rattle.standard.specs.Statement.{AreOctets, Container, IfPresent, IsAlgorithm, IsAny, algorithm, any, integer, optional, sequence, tlv}

-- The version 0 fits an octet.
abbrev pub IsContainer : Container → Type 0
IsContainer c =
    (0 < 256) × (IsAlgorithm IsAny c.algorithm × (AreOctets c.private_key × IfPresent AreOctets c.attributes))

abbrev pub container_printed : Container → List ℕ
container_printed c =
    integer 0 ++ (algorithm any c.algorithm ++ (tlv 4 c.private_key ++ optional (tlv 160) c.attributes))

-- Which octets encode a container within the limit, as the kernel says it.
abbrev pub ContainerSpells : Container → List ℕ → Type 0
ContainerSpells = Spells IsContainer (λ c. sequence (container_printed c)) (λ c. c)
