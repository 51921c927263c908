-- Hosts: end systems with one port.
pub mod State
pub mod Stands
