-- Laws that contracts and ghost members name, and what those rest on. Other lemmas are in proofs/.
pub mod Answers
pub mod Equality
pub mod FieldTags
pub mod Records
pub mod SameEncodings
