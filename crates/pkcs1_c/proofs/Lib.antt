-- The lemmas of `pkcs1_c`, and its worked rows.
pub mod Containers
pub mod FittingFields
pub mod GivenKeys
pub mod GivenRows
pub mod HeldKeys
pub mod HeldParameters
pub mod PlacedPrimes
pub mod Writes
pub mod StructErrors
pub mod StatusRows
pub mod StructErrorsRows
pub mod StructsPromiseRows
pub mod StructsRows
