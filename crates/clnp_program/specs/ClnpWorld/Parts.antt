-- What the parts of a move do to the network of the code.
use Rattle.std.specs.Prelude.{◌≡◌, ◌≤◌, ◌+◌, ℕ, List, ◌++◌, slice_get, Some}
use Rattle.clnp_machine.specs.System.{Input, SystemState}
use Rattle.clnp_systems.specs.Steps.{moment_at}
use Rattle.clnp_machine.specs.ClnpNetwork.LabelledNetwork as network
use Rattle.clnp_program.specs.ClnpWorld.Lines.{Gains, Taken}
use Rattle.clnp_program.specs.ClnpWorld.Seen.{frames_weight}
use Rattle.clnp_program.specs.ClnpWorld.State.{NetworkState}
use Rattle.clnp_program.specs.ClnpWorld.Stands as seen
use Rattle.clnp_program.specs.declared.clnp_world.copy.FrameCopy.{FrameCopy}
use Rattle.clnp_program.specs.declared.clnp_world.network.Network.{Network}

-- what a contract sees of the network of the code
abbrev pub state_of : Network → NetworkState
state_of code = record {
  clock = code.clock;
  systems = code.systems.items;
  mtus = code.mtus.items;
  copies = code.copies.items;
  cursor = code.cursor;
  weight = code.weight;
}

-- the network of the code is one of the model, whatever the clocks of its systems
abbrev pub Shows : Network → network.LabelledNetwork → Type 0
Shows code model = seen.Shows (state_of code) model

-- what comes to the system at a place leaves its clock where it isn't ahead of the network's
abbrev pub IsTimely : network.LabelledNetwork → (place : ℕ) → Input → Type 0
IsTimely model place input =
    (system : SystemState) → slice_get model.systems place ≡ Some system → moment_at input system.moment ≤ model.clock

-- the clock of the system at a place may go on
abbrev pub MayGoOn : network.LabelledNetwork → (place : ℕ) → Type 0
MayGoOn model place = (system : SystemState) → slice_get model.systems place ≡ Some system
    → system.moment + 1 ≤ model.clock

-- between two moves it is one of the model, in which no clock is ahead
abbrev pub Holds : Network → network.LabelledNetwork → Type 0
Holds code model = seen.Holds (state_of code) model

abbrev pub IsRunning : Network → Type 0
IsRunning code = (model : network.LabelledNetwork) × Holds code model

-- the network and its lines are those after a part of a move, whatever the clocks of its systems
pub record Puts (code : Network) (before after : Taken) (part : network.Step) : Type 0 where
  pub shows : Shows code part.world
  pub lines : Gains before after part.lines

-- the network and its lines are those after a part of a move
pub record Follows (code : Network) (before after : Taken) (part : network.Step) : Type 0 where
  pub holds : Holds code part.world
  pub lines : Gains before after part.lines

-- a part of a move that writes no lines was done
abbrev pub Changes : Network → Network → (network.LabelledNetwork → network.Step) → Type 0
Changes before after part =
    (model : network.LabelledNetwork) (lines : Taken) → Holds before model → Follows after lines lines (part model)

-- some copies were put behind the others, and weighed
pub record PutsCopies (before after : Network) (made : List FrameCopy) : Type 0 where
  pub copies : after.copies.items ≡ before.copies.items ++ made
  pub weight : after.weight ≡ before.weight + frames_weight made
