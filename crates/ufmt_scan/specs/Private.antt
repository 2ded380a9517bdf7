-- What the steps of the scanner and of conversions promise. No public contract names any of it: the public contracts are proved from it.
pub mod FrontScan
pub mod Fronts
pub mod Growing
pub mod Level
pub mod MarkedBytes
pub mod Place
pub mod Scanning
pub mod Shapes
pub mod Spelled
pub mod TextSink
