pub mod FieldLaws
pub mod Fields
pub mod FoundValues
pub mod Fronts
pub mod Private
pub mod Unclosed
pub mod Values
