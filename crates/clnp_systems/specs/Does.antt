-- What the entity's parts do.
use Rattle.std.specs.Prelude.{◌≡◌, ℕ, Bool, List, length, take, None}
use Rattle.std.specs.List.{list_any}
use Rattle.clnp_machine.specs.ClnpPlan.declared.output.Output.{Output}
use Rattle.clnp_machine.specs.Esis.{tells_new}
use Rattle.clnp_machine.specs.Given.{Appends}
use Rattle.clnp_machine.specs.System.{Effect}
use Rattle.clnp_systems.specs.EsisStands.{Stands}
use Rattle.clnp_systems.specs.EsisState.{EsisState}

-- the entity stands for the state that an effect leaves, and what the effect gives out was appended
pub record Does (moment : ℕ) (entity : EsisState) (before after : List Output) (effect : Effect) : Type 0 where
  pub stands : Stands entity effect.after
  pub appends : Appends moment None before after effect.outputs

-- and it is said whether something new was heard
pub record Hears (moment : ℕ) (entity : EsisState) (before after : List Output) (new : Bool) (effect : Effect)
    : Type 0 where
  pub does : Does moment entity before after effect
  pub new_is : new ≡ list_any tells_new effect.outputs

-- what a list held stays in front
abbrev pub StaysInFront : List Output → List Output → Type 0
StaysInFront before after = take (length before) after ≡ before
