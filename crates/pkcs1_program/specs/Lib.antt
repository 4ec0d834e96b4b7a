-- The definitions of `pkcs1_program`: what lines ask for, what is answered, and what copying does to files.
pub mod Written
pub mod Fault
pub mod Plan
pub mod Replaced
pub mod Copied
pub mod Request
pub mod Answer
pub mod Words
