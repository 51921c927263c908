-- What the configuration entity of a system stands for.
use Rattle.std.specs.Prelude.{◌≡◌, ℕ, []}
use Rattle.clnp_machine.specs.EsisTables.Stands as esis_tables
use Rattle.clnp_machine.specs.EsisTables.Stands.{limits_of}
use Rattle.clnp_machine.specs.System.{SystemState}
use Rattle.clnp_machine.specs.Esis.{esis_limits}
use Rattle.clnp_systems.specs.EsisState.{EsisState}

-- An entity stands for what a system heard and says, where what had ended by a moment is forgotten.
pub record StandsSince (moment : ℕ) (entity : EsisState) (s : SystemState) : Type 0 where
  pub tables : esis_tables.Stands entity.tables s.facts moment []
  pub limits : limits_of entity.tables ≡ esis_limits s
  pub period : entity.period ≡ s.hello
  pub next_hello : entity.next_hello ≡ s.next_hello

-- at the system's own moment
abbrev pub Stands : EsisState → SystemState → Type 0
Stands entity s = StandsSince s.moment entity s
