-- The definitions of `pkcs1_params`: what parameters hold and mean, how they are read, and their spellings.
pub mod Parameters
pub mod HashFunctions
pub mod Labels
pub mod PssValue
pub mod OaepValue
pub mod Spellings
pub mod Errors
pub mod Meanings
pub mod ParameterReadings
pub mod DefaultBits
pub mod Algorithms
pub mod Laws
pub mod Words
