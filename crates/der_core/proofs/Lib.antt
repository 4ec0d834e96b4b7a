-- Lemmas for the answers in the folders here, by what they are about, and worked rows. Laws are in specs/.
pub mod Integers
pub mod Documents
pub mod EncodeToSlice
pub mod Lengths
pub mod ErrorEquality
pub mod Items
pub mod ItemsLeft
pub mod ReadSteps
pub mod Writing
pub mod Headers
pub mod Readings
pub mod Splitting
pub mod ContentsRows
