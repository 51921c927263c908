pub mod Outputs
pub mod Links
pub mod Clocks
pub mod Plays
pub mod Agenda
pub mod Ran
