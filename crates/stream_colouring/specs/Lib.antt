pub mod StreamColour
pub mod Inner
pub mod Cutting
pub mod Agreement
pub mod Accuracy
