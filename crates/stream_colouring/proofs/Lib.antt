pub mod Checks
pub mod Streams
pub mod Told
pub mod Passed
pub mod Cutting
pub mod Agreement
pub mod Accuracy
