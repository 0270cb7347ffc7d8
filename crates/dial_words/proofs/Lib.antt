pub mod Patterns
pub mod Commands
