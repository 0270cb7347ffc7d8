pub mod Colouring
pub mod Written
pub mod Inner
