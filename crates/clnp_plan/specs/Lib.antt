pub use Rattle.pdus.specs.ClnpBase
pub use Rattle.pdus.specs as Pdus
pub use Rattle.pdus.specs.ClnpOptions
pub use Rattle.pdus.specs.ClnpViews
pub use Rattle.pdus.specs.Fletcher
pub use Rattle.pdus.specs.Nsap
pub use Rattle.pdus.specs.PduHeader
pub use Rattle.system_tables.specs as SystemTables
pub use Rattle.system_tables.specs.EsisTables
pub use Rattle.system_tables.specs.Forwarding
pub mod Configuration
pub mod Journal
pub mod Words
pub mod Laying
pub mod Asking
pub mod ScenarioPlan
