pub mod Passed
pub mod Agreement
pub mod Accuracy
