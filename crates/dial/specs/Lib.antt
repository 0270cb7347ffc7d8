pub mod Dial
pub mod Examples
