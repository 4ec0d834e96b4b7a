-- The definitions of `pkcs1_c`: what the structs of C hold, and which statuses its calls return.
pub mod GivenPrimesValue
pub mod PrimeLists
pub mod Status
pub mod StructErrors
pub mod Structs
pub mod Words
