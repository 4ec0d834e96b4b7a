-- Laws of what is printed: of leaves, tags, rows, OPTIONAL parts and lists.
pub mod Leaves
pub mod Rows
pub mod Optional
pub mod Items
pub mod Alike
pub mod Shortest
pub mod Relations
