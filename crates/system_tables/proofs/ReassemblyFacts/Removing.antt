-- Names that crates above still cite, from clnp_base.
pub use Rattle.pdus.proofs.ClnpBase.Filters.{AllByRecursion-filter}
pub use Rattle.pdus.proofs.ClnpBase.Lists.{AllByRecursion-find, AllByRecursion-implies as AllByRecursion-weaker}
