pub use Rattle.clnp_plan.specs.ClnpBase
pub use Rattle.clnp_plan.specs.Pdus
pub use Rattle.clnp_plan.specs.ClnpOptions
pub use Rattle.clnp_plan.specs.Nsap
pub use Rattle.clnp_plan.specs.PduHeader
pub use Rattle.clnp_plan.specs as ClnpPlan
pub use Rattle.clnp_plan.specs.ScenarioPlan
pub mod Codes
pub mod Grammar
pub mod Refusal
pub mod Declarations
pub mod Events
pub mod Words
pub mod Versions
pub mod ScenarioWriting
