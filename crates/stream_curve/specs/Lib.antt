pub mod StreamCurve
pub mod Inner
