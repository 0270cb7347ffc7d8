pub mod Near
pub mod Fraction
pub mod Slope
