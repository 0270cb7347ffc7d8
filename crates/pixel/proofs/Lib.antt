pub mod Numbers
pub mod Channels
pub mod Formulas
pub mod Lines
pub mod Accurate
pub mod Paper
pub mod Strips
