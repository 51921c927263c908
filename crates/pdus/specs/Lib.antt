pub use Rattle.clnp_base.specs as ClnpBase
pub mod Fletcher
pub mod Nsap
pub mod ClnpOptions
pub mod ClnpViews
pub mod PduHeader
pub mod EsisPdus
pub mod MadePdus
