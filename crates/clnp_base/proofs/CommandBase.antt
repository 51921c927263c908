pub mod Fronts
pub mod ByLine
