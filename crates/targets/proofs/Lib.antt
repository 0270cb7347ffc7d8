pub mod EachBetween
pub mod Laws
