pub mod Script
pub mod Examples
