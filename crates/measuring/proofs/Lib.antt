pub mod Counts
pub mod Cumulative
pub mod Counting
