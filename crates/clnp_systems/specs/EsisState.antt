-- What a contract sees of the configuration entity of a system.
use Rattle.std.specs.Prelude.{ℕ}
use Rattle.clnp_machine.specs.SystemTables.declared.esis_tables.tables.Tables.{Tables}

pub record EsisState : Type 0 where
  pub tables : Tables
  -- how often hello is said, in seconds; 0 is never
  pub period : ℕ
  -- the moment from which on the next hello is due
  pub next_hello : ℕ
