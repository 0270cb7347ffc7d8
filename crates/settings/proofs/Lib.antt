pub mod Bytes
pub mod Mixing
pub mod Rounded
pub mod Accurate
pub mod Order
pub mod Examples
