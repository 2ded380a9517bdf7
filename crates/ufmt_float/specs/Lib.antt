pub mod Interval
pub mod Laws
pub mod Parts
pub mod Put
pub mod Scale
pub mod Shortest
pub mod Text
