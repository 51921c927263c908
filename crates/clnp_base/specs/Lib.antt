pub mod Cuts
pub mod Hexadecimal
pub mod Inline
pub mod Memory
pub mod Moments
pub mod Streams
pub mod Text
pub mod CommandBase
