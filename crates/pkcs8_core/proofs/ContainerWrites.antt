-- Writing of containers: each value that is held has an encoding. For `encode_info` and `lemma_has_encoding`.
use Rattle.std.proofs.Common.{ℕ, Option, Some, None, option_map, Result, Ok, Err, IfErr}
use Rattle.der_core.specs.Words.{are_bytes, Unwritten, encode_error}
use Rattle.der_core.specs.declared.error.Error.{Error}
use Rattle.pkcs1_params.specs.Words.{unwritten_of_same_encodings}
use Rattle.pkcs8_core.specs.Words.{Container, ContainerSpells, attributes_of, container_stated, IsContainer}
use Rattle.pkcs8_core.specs.declared.attributes.Attributes.{Attributes}
use Rattle.standard.specs.Statement.{AreOctets, ContainerEncoding, IfPresent}

-- What a container holds is valid.
pub attributes_held : (a : Option Attributes) → IfPresent AreOctets (option_map attributes_of a)
attributes_held None = tt
attributes_held (Some a) = are_bytes a.bytes.now a.octets

-- Why a valid container isn't written, in the words of the statement.
pub container_refused : (c : Container) → IsContainer c → (room : ℕ) (r : Result ℕ Error)
    → IfErr r (λ e. Unwritten IsContainer ContainerSpells c room (encode_error e.kind))
    → IfErr r (λ e. Unwritten (λ _. Unit {0}) ContainerEncoding c room (encode_error e.kind))
container_refused c ok room (Ok n) why = tt
container_refused c ok room (Err e) why =
    unwritten_of_same_encodings ContainerSpells ContainerEncoding c c (container_stated.same c) IsContainer (λ _. Unit {0})
    (λ _. tt, λ _. ok) room (encode_error e.kind) why
