pub mod TwoPixels
pub mod Starred
pub mod Counting
