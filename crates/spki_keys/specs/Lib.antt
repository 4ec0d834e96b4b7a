-- The grammar that the contracts cite.
pub mod KeyInfo
