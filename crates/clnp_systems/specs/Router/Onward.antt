-- What a PDU for another address comes to.
use Rattle.std.specs.Prelude.{◌≡◌, ◌-◌, ℕ, nat_le, is_some, if◌then◌else◌, List, length, Option, None, Some, Result, Ok, Err}
use Rattle.clnp_machine.specs.ClnpOptions.Reasons.{reason_code}
use Rattle.clnp_machine.specs.Pdus.declared.clnp_options.reasons.Reason.{Reason}
use Rattle.clnp_machine.specs.ClnpPlan.declared.config.PortConfig.{PortConfig}
use Rattle.clnp_machine.specs.Step.{discards, forwarded, loss_at, options_behind, pieces_go_on}
use Rattle.clnp_machine.specs.ClnpOptions.Edits.{target_of}
use Rattle.clnp_machine.specs.PduHeader.Headers.{SpellsHeader}
use Rattle.clnp_machine.specs.PduHeader.Value.{PduValue}
use Rattle.clnp_machine.specs.System.{Effect, SystemState}
use Rattle.clnp_machine.specs.Unit.{Packet, cut, value_of}
use Rattle.clnp_machine.specs.SystemTables.declared.esis_tables.fact.Neighbour.{Neighbour}
use Rattle.clnp_systems.specs.declared.onward.Onward.{Onward}

-- the lifetime that is left of one where a PDU goes on by a port, unless it ends there (ISO 8473, section 6.4)
abbrev pub life_left : (life : ℕ) → PortConfig → Option ℕ
life_left life port = if nat_le life (loss_at port) then None else Some (life - loss_at port)

-- the octets are the header of a PDU with so many octets of data
abbrev pub IsHeaderOver : (len : ℕ) → List ℕ → Type 0
IsHeaderOver len head = (v : PduValue) × SpellsHeader v head × (length v.body ≡ len)

-- It goes on under this header, with a lifetime lower by a loss and the options behind the router, in pieces for the MTU.
pub record GoesOn (onward : Onward) (head : List ℕ) (s : SystemState) (came : Neighbour) (p : Packet) (following : List ℕ) (effect : Effect) : Type 0 where
  pub loss : ℕ
  pub spells : SpellsHeader (value_of (forwarded p loss (options_behind s p.options))) head
  pub towards_title : onward.towards_title ≡ is_some (target_of (options_behind s p.options))
  pub effect_is : effect ≡ pieces_go_on s came p following (options_behind s p.options) onward.way
      (cut (forwarded p loss (options_behind s p.options)) onward.mtu)

-- or it is discarded for a reason
abbrev pub ComesTo : Result Onward Reason → (head : List ℕ) → SystemState → Neighbour → Packet → List ℕ → Effect → Type 0
ComesTo (Ok onward) head s came p following effect = GoesOn onward head s came p following effect
ComesTo (Err reason) head s came p following effect = effect ≡ discards s p following (reason_code reason)
