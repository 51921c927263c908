-- Routers: intermediate systems.
pub mod State
pub mod Stands
pub mod Onward
