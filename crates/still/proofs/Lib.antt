pub mod Sizes
pub mod Samples
pub mod Answers
pub mod Limits
pub mod Agreement
pub mod Examples
