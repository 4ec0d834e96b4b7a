-- Lemmas for the answers in the folders here, by the example that they are for.
pub mod Signature
pub mod Salt
pub mod Numbers
pub mod KeyStore
