-- What the examples promise: grammars of their types, a hash, a store of keys.
pub mod Keys
pub mod Signatures
pub mod Signature
pub mod Salt
pub mod Extension
pub mod NumberList
pub mod Fnv
pub mod KeyStore
pub mod ImplicitPair
pub mod AuthorityKeyTags
