-- What the steps of a system do, between its calls and what it gives out.
use Rattle.std.specs.Prelude.{◌≡◌, ℕ, true, List, None}
use Rattle.clnp_machine.specs.ClnpPlan.declared.ask.SendRefusal.{SendRefusal}
use Rattle.clnp_machine.specs.ClnpPlan.declared.ask.SendRefusal.TheVariants.{NoMemory}
use Rattle.clnp_machine.specs.ClnpPlan.declared.output.Output.{Output}
use Rattle.clnp_machine.specs.Given.{Appends}
use Rattle.clnp_machine.specs.Local.{Action, Deed, Sends, Tells}
use Rattle.clnp_machine.specs.Step.{effect_of}
use Rattle.clnp_machine.specs.System.{SystemState}
use Rattle.clnp_systems.specs.EntityState.{SystemEntityState}
use Rattle.clnp_systems.specs.EntityStands.{PartsStand, Stands}

-- what is sent was made at this moment, with its first octet in the initial PDU's first place
abbrev pub IsFresh : ℕ → Action → Type 0
IsFresh moment (Tells note) = Unit {0}
IsFresh moment (Sends u) = (u.made ≡ moment) × (u.first_position ≡ 0)

-- a refusal other than one of memory leaves an entity as it was
abbrev pub LeavesParts : SendRefusal → SystemEntityState → SystemEntityState → Type 0
LeavesParts NoMemory before after = Unit {0}
LeavesParts _ before after = after ≡ before

-- A step is being taken: should memory be refused in it, the entity is spent.
pub record IsAtWork (entity : SystemEntityState) : Type 0 where
  pub spent : entity.spent ≡ true
  pub state : SystemState
  pub parts : PartsStand entity state

-- a deed was done at a moment: the entity stands for the state after it, and exactly its outputs were appended
pub record DoesDeed (moment : ℕ) (deed : Deed) (new : SystemEntityState) (before after : List Output) : Type 0 where
  pub stands : Stands new deed.after
  pub outputs : Appends moment None before after (effect_of deed).outputs
