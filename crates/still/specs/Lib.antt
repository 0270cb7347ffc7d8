pub mod Still
pub mod Inner
pub mod Limits
pub mod Agreement
pub mod Examples
