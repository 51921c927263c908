pub mod Codes
pub mod Exit
pub mod Output
pub mod ByLine
pub mod ComesAs
pub mod Reading
