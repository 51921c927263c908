-- Names that crates above still cite, from clnp_base.
pub use Rattle.pdus.proofs.ClnpBase.Sums.{length_filter, sum_filter}
