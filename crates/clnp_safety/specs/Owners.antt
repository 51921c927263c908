-- Who hands up a data unit.
use Rattle.std.specs.Prelude.{◌≡◌, ℕ, true, List, slice_get, Some}
use Rattle.clnp_machine.specs.ClnpPlan.Journal.{Line, Noted}
use Rattle.clnp_machine.specs.ClnpPlan.declared.note.Note.TheVariants.{Got}
use Rattle.clnp_machine.specs.System.{SystemState}
use Rattle.clnp_machine.specs.Local.{is_own}

-- one of the systems has this name, and the address among its own
pub record HasOwner (systems : List SystemState) (name address : List ℕ) : Type 0 where
  pub place : ℕ
  pub system : SystemState
  pub there : slice_get systems place ≡ Some system
  pub named : system.configuration.name ≡ name
  pub owns : is_own system address ≡ true

-- where the line says that a unit was handed up, an owner of its destination did so
abbrev pub IsByOwner : List SystemState → Line → Type 0
IsByOwner systems (Noted now name (Got source destination octets)) = HasOwner systems name destination
IsByOwner systems _ = Unit {0}
