-- The definitions and laws that contracts and ghost members name. `Words` gathers them.
pub mod Identifiers
pub mod Explicit
pub mod Allocating
pub mod HeldValues
pub mod AlgorithmValue
pub mod IdentifierTest
pub mod StrictFields
pub mod Readings
pub mod FieldSpellings
pub mod Laws
pub mod Words
