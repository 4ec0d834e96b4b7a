-- The definitions of `pkcs1`: keys and their versions, what values hold, and how they are read and printed.
pub mod Keys
pub mod Versions
pub mod StatedKeys
pub mod KeyReadings
pub mod Printing
pub mod Allocating
pub mod KeyEncodings
pub mod KeyValue
pub mod OtherPrimesHeld
pub mod OtherPrimesLeft
pub mod ViewedKey
pub mod Held
pub mod ViewParts
pub mod RsaEncryption
pub mod Laws
pub mod Words
