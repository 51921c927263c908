pub mod Address
pub mod Prefix
pub mod Text
