-- What is promised of texts with less width than was asked for. No public contract names any of it.
pub mod CharacterNumbers
pub mod Front
pub mod Narrow
