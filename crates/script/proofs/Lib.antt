pub mod Names
pub mod Due
pub mod Examples
pub mod Comments
