-- Laws that contracts and ghost members name, and what those rest on. Other lemmas are in proofs/.
pub mod AnyValues
pub mod Readings
pub mod FieldSpellings
pub mod HaveEncodings
pub mod IdentifierTest
pub mod Printed
