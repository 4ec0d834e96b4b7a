-- Laws that contracts and ghost members name, and what those rest on. Other lemmas are in proofs/.
pub mod PrimesHeld
pub mod KeyFaults
pub mod KeysAlike
pub mod PrintedKeys
pub mod PrintedPrivateKeys
pub mod RsaAlgorithms
pub mod ShortestKeys
pub mod StatedPrivateKeys
