pub mod Distinct
pub mod Longest
pub mod Setting
pub mod Stands
