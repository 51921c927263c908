pub mod Canonical
pub mod Seeds
pub mod Migration
