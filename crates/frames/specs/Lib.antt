pub mod Starred
pub mod Inner
