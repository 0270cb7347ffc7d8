pub mod Run
pub mod Reading
pub mod Represents
pub mod Steps
pub mod Colourings
pub mod Accuracy
