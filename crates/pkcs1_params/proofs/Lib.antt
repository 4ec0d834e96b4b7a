-- The lemmas of `pkcs1_params`: how parameters are read and written, under which masks, and their faults.
pub mod Algorithms
pub mod Masks
pub mod Faults
pub mod ParameterReads
pub mod WholeParameters
pub mod Labels
pub mod Wrapped
pub mod WrittenFront
