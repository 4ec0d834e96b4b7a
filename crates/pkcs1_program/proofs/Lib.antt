-- The lemmas of `pkcs1_program`: how lines are cut and their output is appended, and that it is the only one.
pub mod CutAtByte
pub mod Runs
pub mod OneAnswer
pub mod SequenceFronts
pub mod AppendedOutput
pub mod Verdicts
mod FirstPlace
mod DecimalDigits
