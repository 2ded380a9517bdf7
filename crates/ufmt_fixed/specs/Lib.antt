pub mod Dyadic
pub mod Laws
pub mod Natural
pub mod Nearest
pub mod Text
