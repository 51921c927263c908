-- What the entity of a system at its own addresses stands for, and what it does.
use Rattle.std.specs.Prelude.{◌≡◌, List, ◌++◌, Option, None, Some}
use Rattle.std.specs.List.{AllByRecursion, AllZip}
use Rattle.clnp_machine.specs.ClnpViews.Extent.{Extent, seen}
use Rattle.clnp_machine.specs.PduHeader.Headers.{SpellsHeader}
use Rattle.clnp_machine.specs.Reassembly.Buffer.{Buffer}
use Rattle.clnp_machine.specs.Reassembly.Mapped.{map_buffers}
use Rattle.clnp_machine.specs.Reassembly.State as table
use Rattle.clnp_machine.specs.ClnpPlan.declared.ask.SendRefusal.{SendRefusal}
use Rattle.clnp_machine.specs.ClnpPlan.declared.ask.SendRefusal.TheVariants as send_refusal
use Rattle.clnp_machine.specs.ClnpPlan.declared.note.Note.{Note}
use Rattle.clnp_machine.specs.ClnpPlan.declared.note.Note.TheVariants.{Refused}
use Rattle.clnp_machine.specs.ClnpPlan.declared.note.Why.TheVariants as why
use Rattle.clnp_machine.specs.Unit.{DataUnit, Packet, wire, value_of, whole_packet}
use Rattle.clnp_machine.specs.System.{SystemState, table_limits}
use Rattle.clnp_machine.specs.Local as locally
use Rattle.clnp_machine.specs.Local.{IsAsOffered}
use Rattle.clnp_systems.specs.Pool as pool
use Rattle.clnp_systems.specs.declared.action.Action.{Action}
use Rattle.clnp_systems.specs.declared.action.Action.TheVariants.{Send, Note as Noted}
use Rattle.clnp_systems.specs.declared.action.Draft.{Draft}
use Rattle.clnp_systems.specs.declared.pending.Request.{Request}
use Rattle.clnp_systems.specs.LocalState.{EntityState}

-- a noted request is one that the system made
pub record IsRequest (request : Request) (u : DataUnit) : Type 0 where
  pub number : request.unit ≡ u.number
  pub source : request.from ≡ u.source
  pub destination : request.to ≡ u.destination
  pub shown : seen request.body ≡ u.octets

-- the noted requests are these, one by one
abbrev pub AreRequests : List Request → List DataUnit → Type 0
AreRequests requests units = AllZip IsRequest requests units

-- An entity stands for the state of a system, whatever its place and its moment.
pub record Stands (entity : EntityState) (s : SystemState) : Type 0 where
  pub configuration : entity.configuration ≡ s.configuration
  pub limits : entity.table.limits ≡ table_limits s
  pub count : entity.count ≡ s.count
  pub identifiers : pool.Stands entity.identifiers s.identifiers
  -- the table stands for buffers whose segments show the very octets that the packets spell
  pub buffers : List (Buffer Extent)
  pub table : table.Stands entity.table buffers
  pub shown : map_buffers seen buffers ≡ map_buffers wire s.buffers
  pub packets : AllByRecursion (λ (buffer : Buffer Packet). AllByRecursion IsAsOffered buffer.kept) s.buffers
  pub pending : AreRequests entity.pending s.pending

-- what the code is about to make is a unit
pub record IsDraft (draft : Draft) (u : DataUnit) : Type 0 where
  pub kind : draft.kind ≡ u.kind
  pub identifier : draft.id ≡ u.identifier
  pub source : draft.from ≡ u.source
  pub destination : draft.to ≡ u.destination
  pub spells : SpellsHeader (value_of (whole_packet u)) draft.head
  pub shown : seen draft.body ≡ u.octets

-- an action of the code is one of the model
abbrev pub Does : Action → locally.Action → Type 0
Does (Noted note) (locally.Tells told) = note ≡ told
Does (Send made) (locally.Sends u) =
    (made.unit ≡ u.number) × (made.to ≡ u.destination) × SpellsHeader (value_of (whole_packet u)) made.head × (seen made.body ≡ u.octets)
Does (Noted note) (locally.Sends u) = ⊥
Does (Send made) (locally.Tells told) = ⊥

abbrev pub DoAll : List Action → List locally.Action → Type 0
DoAll actions others = AllZip Does actions others

-- actions that are these ones of the model were appended
pub record Appends (before after : List Action) (others : List locally.Action) : Type 0 where
  pub actions : List Action
  pub appended : after ≡ before ++ actions
  pub do_all : DoAll actions others

-- what a refusal says; want of memory says nothing
abbrev pub refusal_note : SendRefusal → Option Note
refusal_note send_refusal.NotMine = Some (Refused why.NotMine 0)
refusal_note (send_refusal.TooLong octets) = Some (Refused why.TooLong octets)
refusal_note (send_refusal.IdsBusy used) = Some (Refused why.IdsBusy used)
refusal_note (send_refusal.Quiet until) = Some (Refused why.Quiet until)
refusal_note send_refusal.NoMemory = None

-- the refusal is why the unit isn't made; want of memory alone is free
abbrev pub IsWhy : SendRefusal → Option Note → Type 0
IsWhy send_refusal.NoMemory answer = Unit {0}
IsWhy e answer = answer ≡ refusal_note e
