-- The outputs of a system of the code, and those of the model.
use Rattle.std.specs.Prelude.{◌≡◌, ◌⊎◌, ℕ, true, false, List, ◌++◌, Option, None, Some}
use Rattle.std.specs.List.{AllZip}
use Rattle.clnp_plan.specs.Pdus.declared.nsap.target.Target.{Target}
use Rattle.pdus.specs.EsisPdus.Grammar as esis
use Rattle.pdus.specs.EsisPdus.Spelling as esis_spelling
use Rattle.pdus.specs.EsisPdus.Value.{EsisValue}
use Rattle.clnp_plan.specs.declared.output.Output.{Output}
use Rattle.clnp_plan.specs.declared.output.Output.TheVariants.{Transmit, Note}
use Rattle.clnp_plan.specs.declared.output.Sending.{Sending}
use Rattle.clnp_machine.specs.Content.{Content, Labelled, Esis, Unlabelled}
use Rattle.clnp_machine.specs.Unit.{DataUnit, Packet, wire, IsCarriable}
use Rattle.clnp_machine.specs.System as machine

-- A frame goes out for a packet: its octets are those of the packet's PDU, and it is the first transmission of a unit
-- that was made at this moment, which nobody forwarded yet.
pub record IsSentFor (moment : ℕ) (sending : Sending) (port : ℕ) (target : Target) (packet : Packet) : Type 0 where
  pub port_is : sending.port ≡ port
  pub target_is : sending.to ≡ target
  pub octets : sending.frame ≡ wire packet
  pub first : sending.forwarded ≡ false
  pub carriable : IsCarriable packet
  pub made : packet.unit.made ≡ moment
  pub hops : packet.hops ≡ 0

-- a frame goes out for an ES-IS PDU: its octets are those of the PDU
pub record IsSentForEsis (sending : Sending) (port : ℕ) (target : Target) (value : EsisValue) : Type 0 where
  pub port_is : sending.port ≡ port
  pub target_is : sending.to ≡ target
  pub octets : sending.frame ≡ esis_spelling.spelling value
  pub first : sending.forwarded ≡ false
  pub pdu : esis.IsPdu value

-- a frame that came carries a packet of the unit
abbrev pub CarriesUnit : Content → DataUnit → Type 0
CarriesUnit (Labelled came following) u = came.unit ≡ u
CarriesUnit (Esis value following) u = ⊥
CarriesUnit (Unlabelled octets) u = ⊥

-- a frame goes out for a packet of the unit of which one came: its octets are those of the packet's PDU
pub record IsSentOnFor (came : Content) (sending : Sending) (port : ℕ) (target : Target) (packet : Packet) : Type 0 where
  pub port_is : sending.port ≡ port
  pub target_is : sending.to ≡ target
  pub octets : sending.frame ≡ wire packet
  pub forwarded : sending.forwarded ≡ true
  pub carriable : IsCarriable packet
  pub unit : CarriesUnit came packet.unit

-- A frame goes out for a packet: of a unit that was made at this moment, or, where a frame came, of the unit of which it
-- carries a packet.
abbrev pub IsSent : ℕ → (came : Option Content) → Sending → (port : ℕ) → Target → Packet → Type 0
IsSent moment None sending port target packet = IsSentFor moment sending port target packet
IsSent moment (Some came) sending port target packet =
    IsSentFor moment sending port target packet ⊎ IsSentOnFor came sending port target packet

-- an output of the code is one of the model; where a frame came it may be one that goes on
abbrev pub Gives : ℕ → (came : Option Content) → Output → machine.Output → Type 0
Gives moment came (Note note) (machine.Notes told) = note ≡ told
Gives moment came (Transmit sending) (machine.Transmits port target packet) =
    IsSent moment came sending port target packet
Gives moment came (Transmit sending) (machine.SendsEsis port target value) = IsSentForEsis sending port target value
Gives moment came (Note note) (machine.Transmits port target packet) = ⊥
Gives moment came (Note note) (machine.SendsEsis port target value) = ⊥
Gives moment came (Transmit sending) (machine.Notes told) = ⊥

abbrev pub GiveAll : ℕ → (came : Option Content) → List Output → List machine.Output → Type 0
GiveAll moment came outputs others = AllZip (Gives moment came) outputs others

-- outputs that are these ones of the model were appended
pub record Appends (moment : ℕ) (came : Option Content) (before after : List Output) (others : List machine.Output)
    : Type 0 where
  pub outputs : List Output
  pub appended : after ≡ before ++ outputs
  pub give_all : GiveAll moment came outputs others
