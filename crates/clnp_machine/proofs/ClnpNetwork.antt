pub mod Texts
pub mod Alike
pub mod Sweeps
pub mod Changing
