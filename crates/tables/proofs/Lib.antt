pub mod Cases
pub mod Laws
pub mod Filling
pub mod Made
