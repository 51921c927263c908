pub mod Choosing
pub mod Entries
pub mod Prefixes
pub mod Setting
