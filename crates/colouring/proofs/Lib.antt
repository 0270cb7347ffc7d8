pub mod EachPixel
pub mod Lines
pub mod Loop
pub mod Strips
pub mod Written
