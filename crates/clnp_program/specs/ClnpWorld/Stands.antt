-- What a simulated network of the code stands for.
use Rattle.std.specs.Prelude.{◌≡◌, ◌≤◌, ℕ, List, true, false, length, map, slice_get, Some, Result, Ok, Err}
use Rattle.std.specs.List.{AllByRecursion, AllZip}
use Rattle.clnp_machine.specs.Content.{Content, Labelled, Esis, Unlabelled, IsCarried}
use Rattle.clnp_machine.specs.System.{SystemState}
use Rattle.clnp_machine.specs.ClnpPlan.Configuration.{IsWithin}
use Rattle.clnp_machine.specs.ClnpPlan.declared.config.Role.{Role}
use Rattle.clnp_systems.specs.declared.system.System.{System}
use Rattle.clnp_systems.specs.Stands as clnp_systems
use Rattle.clnp_machine.specs.ClnpNetwork.Clocks.{NoneIsAhead}
use Rattle.clnp_machine.specs.ClnpNetwork.LabelledNetwork as network
use Rattle.clnp_program.specs.ClnpWorld.Seen.{frame_copy, origin_of}
use Rattle.clnp_program.specs.ClnpWorld.State.{NetworkState, WorldState}
use Rattle.clnp_program.specs.declared.clnp_world.copy.FrameCopy.{FrameCopy}
use Rattle.clnp_program.specs.declared.clnp_world.copy.Origin.{Origin}
use Rattle.clnp_program.specs.declared.clnp_world.world.WorldRefusal.{WorldRefusal}
use Rattle.clnp_program.specs.declared.clnp_world.world.WorldRefusal.TheVariants.{WorldFull, NoMemory}

-- each system stands for the system at its place, at its moment
abbrev pub StandEach : List System → List SystemState → Type 0
StandEach nodes systems = AllZip clnp_systems.Stands nodes systems

-- a system of a role was declared at a place
pub record IsDeclared (model : network.LabelledNetwork) (at : ℕ) (role : Role) : Type 0 where
  pub system : SystemState
  pub there : slice_get model.systems at ≡ Some system
  pub role_is : system.configuration.role ≡ role

-- of what somebody made at a moment: where it carries a packet, they made the packet's unit at this moment
abbrev pub IsMadeWithUnit : Origin → Content → Type 0
IsMadeWithUnit origin (Labelled packet following) = origin ≡ origin_of packet.unit.maker packet.unit.made
IsMadeWithUnit origin (Esis value following) = Unit {0}
IsMadeWithUnit origin (Unlabelled octets) = Unit {0}

-- a network is one of the model, whatever the clocks of its systems
pub record Shows (code : NetworkState) (model : network.LabelledNetwork) : Type 0 where
  pub clock : code.clock ≡ model.clock
  pub systems : StandEach code.systems model.systems
  pub mtus : code.mtus ≡ model.mtus
  -- each subnetwork takes frames of at least 512 octets, however often that changed
  pub wide : AllByRecursion (IsWithin 512 65535) model.mtus
  pub copies : code.copies ≡ map frame_copy model.copies
  pub cursor : code.cursor ≡ model.cursor
  pub carried : AllByRecursion (λ copy. IsCarried copy.content) model.copies
  -- a copy of a packet is as old as its unit, and made by whoever made that
  pub born : AllByRecursion (λ (copy : network.Copy). IsMadeWithUnit (origin_of copy.maker copy.birth) copy.content) model.copies
  -- each system knows its place
  pub placed : (place : ℕ) (system : SystemState) → slice_get model.systems place ≡ Some system → system.place ≡ place
  -- no frame is longer than a system takes
  pub short : AllByRecursion (λ (copy : FrameCopy). length copy.frame ≤ 70000) code.copies
  pub weight : code.weight ≡ network.weight model

-- between two moves it is one of the model, in which no clock is ahead
pub record Holds (code : NetworkState) (model : network.LabelledNetwork) : Type 0 where
  pub shows : Shows code model
  pub behind : NoneIsAhead model

pub record Stands (code : WorldState) (model : network.LabelledNetwork) : Type 0 where
  pub not_spent : code.spent ≡ false
  pub holds : Holds code.network model

-- What is always so of a simulated network: while it isn't spent, it stands for one of the model.
abbrev pub IsSound : WorldState → Type 0
IsSound code = code.spent ≡ false → (model : network.LabelledNetwork) × Stands code model

-- a move isn't made where the network is full, exactly there; and then nothing changes
abbrev pub IsLeftBy : WorldRefusal → WorldState → WorldState → Type 0
IsLeftBy (WorldFull octets) before after = after ≡ before
IsLeftBy NoMemory before after = after.spent ≡ true

-- the answer says whether the network was full before the move, and how much it weighed
abbrev pub TellsFull : {A : Type 0} → network.LabelledNetwork → Result A WorldRefusal → Type 0
TellsFull model (Ok made) = network.is_full model ≡ false
TellsFull model (Err (WorldFull octets)) = (network.is_full model ≡ true) × (octets ≡ network.weight model)
TellsFull model (Err NoMemory) = Unit {0}
