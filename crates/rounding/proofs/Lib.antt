pub mod Laws
pub mod Slope
