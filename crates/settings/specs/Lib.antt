pub mod Setting
pub mod Accuracy
pub mod Inner
pub mod Examples
