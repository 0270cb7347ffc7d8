pub mod Exact
pub mod Machine
pub mod Product
pub mod Examples
pub mod Range
