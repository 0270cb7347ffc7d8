pub mod Reading
pub mod Book
pub mod Run
pub mod Accuracy
