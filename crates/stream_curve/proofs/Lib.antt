pub mod Turns
pub mod Fixing
pub mod Told
pub mod Cutting
pub mod Agreement
