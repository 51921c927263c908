-- What the code's copies are in the model.
use Rattle.std.specs.Prelude.{◌≡◌, ℕ, ◌+◌, ◌==◌, ◌&&◌, Bool, true, false, List, [], ◌∷◌, drop, length, map, slice_get, sum, Option, None, Some}
use Rattle.clnp_machine.specs.Pdus.declared.nsap.target.Target.{Target}
use Rattle.clnp_machine.specs.ClnpPlan.declared.config.PortConfig.{PortConfig}
use Rattle.clnp_machine.specs.ClnpPlan.declared.config.Role.{Role}
use Rattle.clnp_machine.specs.Content.{frame_of}
use Rattle.clnp_machine.specs.Unit.{Maker, DeclaredAt, Outside}
use Rattle.clnp_machine.specs.System.{SystemState}
use Rattle.clnp_machine.specs.ClnpNetwork.LabelledNetwork.{Copy, addressees_from, first_port, is_addressee, reaches}
use Rattle.clnp_program.specs.declared.clnp_world.copy.FrameCopy.{FrameCopy}
use Rattle.clnp_program.specs.declared.clnp_world.copy.Origin.{Origin}
use Rattle.clnp_program.specs.declared.clnp_world.network.giving.Addressee.{Addressee}

-- the place of a maker among the declarations, where it was declared
abbrev pub place_of : Maker → Option ℕ
place_of Outside = None
place_of (DeclaredAt place) = Some place

-- who made something, and when, as the code has it
abbrev pub origin_of : Maker → (birth : ℕ) → Origin
origin_of maker birth = record { maker = place_of maker; birth = birth }

-- a copy of the model as the code has it: a packet is the octets of its PDU
abbrev pub frame_copy : Copy → FrameCopy
frame_copy copy =
    record {
      subnet = copy.subnet;
      sender = copy.sender;
      target = copy.target;
      origin = origin_of copy.maker copy.birth;
      frame = frame_of copy.content;
    }

-- the copy that a frame makes on a port's subnetwork, where there is such a port
abbrev pub frame_copies : Option PortConfig → Target → Origin → List ℕ → List FrameCopy
frame_copies None target origin frame = []
frame_copies (Some port) target origin frame =
    record { subnet = port.subnet; sender = port.snpa; target = target; origin = origin; frame = frame } ∷ []

-- whether a copy comes in by a port of a system in a role
abbrev pub enters : FrameCopy → Role → PortConfig → Bool
enters copy role port = (port.subnet == copy.subnet) && reaches role copy.target copy.sender port.snpa

-- the least of a system's ports by which a copy of the model comes in, where the copy is for the system
abbrev pub IsPortFor : Copy → SystemState → Option ℕ → Type 0
IsPortFor copy system None = false ≡ is_addressee copy system
IsPortFor copy system (Some port) =
    (true ≡ is_addressee copy system) × (port ≡ first_port copy system.configuration.role system.attached.ports)

-- The first of those systems, from a place on, that a copy of the model is for, and the least of its ports by which the copy comes
-- in; or the copy is for none of them.
abbrev pub IsNextAddressee : Copy → List SystemState → (from : ℕ) → Option Addressee → Type 0
IsNextAddressee copy systems from None = addressees_from from copy (drop from systems) ≡ []
IsNextAddressee copy systems from (Some next) =
    (addressees_from from copy (drop from systems) ≡ next.place ∷ addressees_from (next.place + 1) copy (drop (next.place + 1) systems))
    × ((system : SystemState) → slice_get systems next.place ≡ Some system
    → next.port ≡ first_port copy system.configuration.role system.attached.ports)

-- what copies weigh: the octets of their frames, and 64 for each
abbrev pub frames_weight : List FrameCopy → ℕ
frames_weight copies = sum (map (λ (copy : FrameCopy). length copy.frame + 64) copies)
