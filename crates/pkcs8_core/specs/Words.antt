-- The words that contracts and proofs cite, from all files of specs.
pub use Rattle.pkcs8_core.specs.Container.{Container}
pub use Rattle.pkcs8_core.specs.ContainerReadings.{info_read, key_in, of_info_parts, private_key_info, rsa_held, rsa_private_key_info}
pub use Rattle.pkcs8_core.specs.ContainerValue.{attributes_of, info_in, info_of, info_viewed, slice_now}
pub use Rattle.pkcs8_core.specs.PrintedContainers.{ContainerSpells, IsContainer, container_printed}
pub use Rattle.pkcs8_core.specs.Rsa.{ContainedKey, rsa_encryption}
pub use Rattle.pkcs8_core.specs.Laws.PrintedContainers.{container_encoded, container_law, container_stated, containers_decode, containers_have_one}
