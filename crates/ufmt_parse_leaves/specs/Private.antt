-- What the parsers of numbers promise within. No public contract names any of it: the public contracts are proved from it.
pub mod Digits
pub mod FloatBytes
pub mod Places
pub mod PlainDecimals
