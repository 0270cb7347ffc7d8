pub mod Cube
pub mod Paper
pub mod Facts
