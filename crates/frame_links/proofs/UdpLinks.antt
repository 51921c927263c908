pub mod Repeating
pub mod Receiving
