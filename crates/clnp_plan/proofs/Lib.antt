pub use Rattle.pdus.proofs.ClnpBase
pub use Rattle.pdus.proofs.ClnpOptions
pub use Rattle.pdus.proofs.NsapFacts as Nsap
pub use Rattle.pdus.proofs.PduHeader
pub use Rattle.system_tables.proofs.EsisTables
pub use Rattle.system_tables.proofs.ForwardingFacts as Forwarding
mod DigitSteps
mod Laying
pub mod ScenarioPlan
