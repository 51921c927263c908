pub mod Names
pub mod Standing
pub mod Plan
pub mod Migrated
