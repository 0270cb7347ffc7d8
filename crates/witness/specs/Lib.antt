pub mod Strips
pub mod Calls
pub mod Host
