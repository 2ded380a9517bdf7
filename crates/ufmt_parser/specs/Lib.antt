pub mod Blocks
pub mod Naming
pub mod Needs
pub mod Next
pub mod Fields
pub mod Taking
