pub mod Coming
pub mod Tables
pub mod Calls
pub mod Classes
pub mod Behind
pub mod Claims
