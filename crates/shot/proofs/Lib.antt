pub mod Passed
pub mod Holds
pub mod Answers
pub mod Empty
pub mod Premise
pub mod OneStrip
pub mod Made
