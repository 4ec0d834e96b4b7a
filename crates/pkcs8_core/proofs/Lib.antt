-- The lemmas of `pkcs8_core` on containers and the keys in them, and the worked rows of all types.
pub mod ContainerWrites
pub mod ContainedKeys
pub mod ReadingsRows
