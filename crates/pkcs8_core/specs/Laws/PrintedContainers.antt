-- Containers: the function reads what is printed of them, and nothing else; and this is what the statement says.
use Rattle.std.proofs.Common.{ℕ, List, ◌++◌, ◌≡◌, ◌≤◌, length, refl, sym, ap, ◌∙◌, arith, append_assoc, Option, Some, None, ◌↔◌}
use Rattle.der_core.specs.Words.{AreBytes, octets_law, last_by_tag_law, expected_law, made_law, row_law, tagged_law, whole_decodes, limit, ReadsPrinted, StatedAs, stated, value_in}
use Rattle.der_core.specs.Tags as tags
use Rattle.spki_core.specs.Words.{algorithm_law, any_law}
use Rattle.pkcs8_core.specs.ContainerReadings.{info_read, of_info_parts, private_key_info}
use Rattle.pkcs8_core.specs.Container.{info_parts}
use Rattle.pkcs8_core.specs.PrintedContainers.{ContainerSpells, IsContainer, container_printed}
use Rattle.pkcs8_core.specs.Tags.{attributes_tag}
use Rattle.standard.specs.Statement.{AtMostOne, Container, ContainerEncoding, Decodes, algorithm, any, integer, optional, sequence, tlv}

pub container_law : ReadsPrinted IsContainer container_printed info_read
container_law =
    made_law (row_law (tagged_law (expected_law 0) tags.integer_tag)
    (row_law (tagged_law (algorithm_law any_law (λ v. omega arith)) tags.sequence_tag)
    (row_law (tagged_law octets_law tags.octet_string_tag) (last_by_tag_law octets_law attributes_tag)))) of_info_parts
    info_parts (λ p. refl) (λ c. refl)

-- The statement joins the parts from the left.
append_regrouped : (v a k t : List ℕ) → v ++ (a ++ (k ++ t)) ≡ ((v ++ a) ++ k) ++ t
append_regrouped v a k t = sym (append_assoc (v ++ a) k t ∙ append_assoc v a (k ++ t))

container_joined : (c : Container) → sequence (container_printed c)
    ≡ sequence (((integer 0 ++ algorithm any c.algorithm) ++ tlv 4 c.private_key) ++ optional (tlv 160) c.attributes)
container_joined c =
    ap sequence
    (append_regrouped (integer 0) (algorithm any c.algorithm) (tlv 4 c.private_key) (optional (tlv 160) c.attributes))

-- A container that has an encoding, within the limit.
abbrev ContainerEncodes : Container → List ℕ → Type 0
ContainerEncodes c bytes = (length bytes ≤ limit) × IsContainer c × (bytes ≡ sequence (container_printed c))

pub container_encoded : (c : Container) (bytes : List ℕ) → ContainerEncodes c bytes ↔ ContainerEncoding c bytes
container_encoded c bytes = (
  λ (few, ok, same). (few, ok.1.0, ok.1.1.0, ok.1.1.1, same ∙ container_joined c),
  λ (few, algorithm, key, attributes, same).
      (few, (omega arith, (algorithm, (key, attributes))), same ∙ sym (container_joined c)),
)

-- What the kernel prints of containers is what the statement has.
pub container_stated : StatedAs IsContainer ContainerSpells IsContainer ContainerEncoding (λ c. c)
container_stated =
    stated (λ c. c) (λ c. refl) (λ c. c) (λ c. refl) (λ c. (λ p. p, λ p. p)) container_encoded

-- The function that tells the containers of whole slices gives one exactly of the bytes that encode it.
pub containers_decode : (bytes : List ℕ) → AreBytes bytes
    → Decodes ContainerEncoding bytes (value_in (private_key_info bytes))
containers_decode bytes are =
    go (value_in (private_key_info bytes)) (whole_decodes (tagged_law container_law tags.sequence_tag) bytes are)
  where
    go : (o : Option Container) → Decodes ContainerEncodes bytes o → Decodes ContainerEncoding bytes o
    go (Some c) (is, only) =
        ((container_encoded c bytes).0 is, λ other p. only other ((container_encoded other bytes).1 p))
    go None never = λ c p. never c ((container_encoded c bytes).1 p)

-- A container has at most one encoding.
pub containers_have_one : AtMostOne ContainerEncoding
containers_have_one c a b p q = p.4 ∙ sym q.4
