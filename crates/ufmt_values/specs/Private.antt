pub mod FieldsLeft
pub mod WithoutEntries
