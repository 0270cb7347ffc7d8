pub mod Runs
pub mod Spaces
pub mod Texts
