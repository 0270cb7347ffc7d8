pub mod Interpreter
pub mod Lists
pub mod Scripts
