pub mod Histogram
pub mod Inner
