pub mod Clock
pub mod Logger
pub mod Table
pub mod ValveLog
