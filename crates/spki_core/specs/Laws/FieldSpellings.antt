-- Laws of fields with defaults: how their spellings are read, which of them a mask names, and which is the shortest.
pub mod Shortest
pub mod Masks
pub mod Records
