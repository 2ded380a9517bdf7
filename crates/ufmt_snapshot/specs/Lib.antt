pub mod Difference
pub mod Private
