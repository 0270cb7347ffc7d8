pub mod Calls
pub mod Host
