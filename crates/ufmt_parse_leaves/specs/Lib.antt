pub mod FixedPoint
pub mod Private
pub mod Spelling
pub mod Values
