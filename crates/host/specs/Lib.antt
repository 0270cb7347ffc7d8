pub mod Host
pub mod Agreement
pub mod Accuracy
