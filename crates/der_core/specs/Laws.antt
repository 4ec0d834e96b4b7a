-- Laws that contracts and ghost members name, and what those rest on. Other lemmas are in proofs/.
pub mod Readings
pub mod Length
pub mod Integer
pub mod Boolean
pub mod BitString
pub mod Encodings
pub mod LengthReading
pub mod Numbers
pub mod Prepending
pub mod OptionalReadings
pub mod Printed
pub mod Appended
pub mod SliceReaders
pub mod TaggedReadings
pub mod WholeReadings
