pub use Rattle.clnp_base.proofs as ClnpBase
pub mod FletcherFacts
pub mod NsapFacts
pub mod ClnpOptions
pub mod ClnpViews
pub mod PduHeader
pub mod EsisPdus
pub mod MadePdus
