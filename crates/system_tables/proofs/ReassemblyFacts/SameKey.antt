-- Names that crates above still cite, from Keys.
pub use Rattle.system_tables.proofs.ReassemblyFacts.Keys.{same_key-refl, same_key-true as same_from_same_key}
