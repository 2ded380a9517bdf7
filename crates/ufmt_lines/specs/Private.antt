pub mod Converted
pub mod GroupOutput
pub mod Group
pub mod LineLen
pub mod StaysAsFound
pub mod WholeLines
pub mod OpenBlocks
