pub mod Refusal
pub mod Numbers
pub mod Numbering
