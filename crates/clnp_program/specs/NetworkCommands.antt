pub mod Sim
pub mod Time
pub mod Play
pub mod Storm
pub mod Counting
pub mod Playing
pub mod RunTasks
