-- What comparing line by line promises at each step. No public contract names any of it.
pub mod LinesLeft
