pub mod Fault
pub mod Watched
pub mod Whole
