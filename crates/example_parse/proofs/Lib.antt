pub mod AlarmTokens
pub mod CommandTokens
pub mod MeasurementTokens
mod Nodes
