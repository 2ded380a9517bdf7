-- What steps inside the crate promise. No public contract names any of it: the public contracts are proved from it.
pub mod Counting
