-- Names that crates above still cite, from clnp_base.
pub use Rattle.pdus.proofs.ClnpBase.Found.{find_any}
pub use Rattle.pdus.proofs.ClnpBase.Maps.{map-agree as map_agree}
pub use Rattle.pdus.proofs.ClnpBase.Ranges.{each_place}
