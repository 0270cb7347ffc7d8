pub mod Choices
pub mod Nearest
pub mod Curve
pub mod Paper
pub mod Inner
