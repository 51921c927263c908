pub mod Patterns
pub mod Migrated
pub mod WorkedPlans
