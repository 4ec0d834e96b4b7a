-- The definitions of `pkcs8_core`: what containers hold, how they are read and printed, and the RSA keys in them.
pub mod Tags
pub mod Container
pub mod ContainerValue
pub mod Rsa
pub mod ContainerReadings
pub mod PrintedContainers
pub mod Laws
pub mod Words
