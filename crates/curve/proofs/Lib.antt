pub mod Numbers
pub mod Nearest
pub mod Curve
pub mod Histogram
pub mod Strips
pub mod Paper
