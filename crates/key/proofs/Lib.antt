pub mod Chroma
pub mod Hue
pub mod Widths
pub mod Dial
pub mod Written
pub mod Paper
pub mod RoundedDown
pub mod Examples
