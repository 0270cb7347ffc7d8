pub mod Runs
pub mod Decimal
pub mod Reading
pub mod Writing
