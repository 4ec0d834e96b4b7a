-- Lemmas for the answers in the folders here.
pub mod KeyInfos
