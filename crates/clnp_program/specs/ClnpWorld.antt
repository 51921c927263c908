pub mod Lines
pub mod Seen
pub mod State
pub mod Stands
pub mod Parts
pub mod Changing
pub mod Becoming
pub mod Changed
