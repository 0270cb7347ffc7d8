pub mod Digits
pub mod Hexadecimal
pub mod Writing
