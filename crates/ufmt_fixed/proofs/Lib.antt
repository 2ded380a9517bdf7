pub mod Naturals
pub mod Puts
pub mod Roundings
pub mod Texts
pub mod Values
pub mod WorkedTexts
pub mod Zeros
