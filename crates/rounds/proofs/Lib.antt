pub mod Floats
pub mod Again
