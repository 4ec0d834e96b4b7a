-- Laws of what is printed: of identifiers, of encodings of any tag, of algorithms and of values inside explicit tags.
pub mod Readings
pub mod Shortest
