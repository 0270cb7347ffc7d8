pub mod State
pub mod Kept
pub mod Shot
pub mod Inner
pub mod Reachable
pub mod Empty
