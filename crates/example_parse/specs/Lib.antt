pub mod Alarm
pub mod Nodes
pub mod Trees
