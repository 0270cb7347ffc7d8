pub mod Pieces
pub mod Known
pub mod Whole
