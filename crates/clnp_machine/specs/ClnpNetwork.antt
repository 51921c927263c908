pub mod LabelledNetwork
pub mod Run
pub mod Clocks
pub mod Safe
pub mod Changed
