pub mod CurveBytes
