-- Lemmas for the answers in the folders here, by what they are about. Laws are in specs/.
pub mod Octets
pub mod Readings
pub mod RecordEncodings
pub mod StrictFields
pub mod Noting
