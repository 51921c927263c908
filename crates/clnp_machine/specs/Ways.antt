-- By which way a packet goes on, and when a router tells its source of a better one.
use Rattle.std.specs.Prelude.{◌≡◌, ◌≢◌, ℕ, ◌+◌, ◌≤◌, ◌⊎◌, true, List, ◌∷◌, None, Some}
use Rattle.clnp_plan.specs.Pdus.declared.nsap.target.Target.{Target}
use Rattle.clnp_plan.specs.Pdus.declared.nsap.target.Target.TheVariants.{System}
use Rattle.clnp_plan.specs.ClnpOptions.Edits.{is_complete, target_of}
use Rattle.clnp_plan.specs.PduHeader.Spelling.{header_length}
use Rattle.clnp_plan.specs.declared.note.Note.TheVariants.{Discard}
use Rattle.clnp_plan.specs.SystemTables.declared.esis_tables.fact.Neighbour.{Neighbour}
use Rattle.clnp_plan.specs.SystemTables.declared.esis_tables.fact.TableKind.TheVariants.{Es}
use Rattle.clnp_plan.specs.EsisTables.NextHop.{current_neighbour}
use Rattle.clnp_machine.specs.Unit.{DeclaredAt, Packet, value_of}
use Rattle.clnp_machine.specs.System.{SystemState, Input, Output, Transmits, Notes, Effect}
use Rattle.clnp_machine.specs.Content.{Labelled}
use Rattle.clnp_machine.specs.Esis.{title_of}
use Rattle.clnp_machine.specs.Local.{discard}
use Rattle.clnp_machine.specs.Step.{Way, effect_of, options_behind, towards, way_of}
use Rattle.clnp_machine.specs.EveryStep.{GoesOnOf}

-- what a packet is sent towards behind a router: the title to which its source route leads then, else its destination
abbrev pub aim_of : SystemState → Packet → List ℕ
aim_of s p = towards p.unit.destination (target_of (options_behind s p.options))

-- the source route of a packet isn't complete, or leads to this router
abbrev pub IsOnRoute : SystemState → Packet → Type 0
IsOnRoute s p = is_complete p.options ≡ true → target_of p.options ≡ Some (title_of s)

-- a way leads to no other system before the aim of a packet, where its source route is complete behind the router
abbrev pub IsAllowedWay : SystemState → Packet → Way → Type 0
IsAllowedWay s p way = is_complete (options_behind s p.options) ≡ true → (title : List ℕ) → way.title ≡ Some title
    → title ≡ aim_of s p

-- How a packet that came goes on, by a port and to a target: by the way towards its aim. Where its source route is complete, it
-- came to a router that the route names; and where the route is still complete, no other system stands before its aim (ISO 8473,
-- section 6.14).
pub record GoesItsWay (s : SystemState) (came : Packet) (port : ℕ) (target : Target) : Type 0 where
  pub way : Way
  pub known : way_of s (aim_of s came) ≡ Some way
  pub by_port : port ≡ way.neighbour.port
  pub to : target ≡ System way.neighbour.snpa
  pub named : IsOnRoute s came
  pub ends : IsAllowedWay s came way

abbrev pub SendsItsWay : SystemState → Packet → Output → Type 0
SendsItsWay s came (Transmits port target packet) = GoesItsWay s came port target
SendsItsWay s came _ = Unit {0}

-- the first of some outputs notes a discard
abbrev pub BeginsWithDiscard : List Output → Type 0
BeginsWithDiscard (Notes (Discard reason place) ∷ outputs) = Unit {0}
BeginsWithDiscard _ = ⊥

-- When a router that gives out something for a packet, which came from a place, tells of a better way (ISO 9542, section 6.8): the
-- packet goes on, not towards a title of a source route, by the port by which it came; it begins its unit; its source is an end
-- system that is known to be at that place; and redirects are held for some time.
pub record CallsForRedirect (s : SystemState) (came : Neighbour) (p : Packet) (outputs : List Output) : Type 0 where
  pub goes_on : ¬ (BeginsWithDiscard outputs)
  pub unled : target_of (options_behind s p.options) ≡ None
  pub way : Way
  pub known : way_of s p.unit.destination ≡ Some way
  pub back : way.neighbour.port ≡ came.port
  pub begins : (p.unit.identifier ≡ None) ⊎ (p.offset ≡ 0)
  pub near : current_neighbour s.moment Es p.unit.source s.facts ≡ Some came
  pub held : s.configuration.settings.rhold ≢ 0

-- what comes of a packet is its discard, for a reason
abbrev pub IsDiscardedFor : (reason : ℕ) → SystemState → Packet → (following : List ℕ) → Effect → Type 0
IsDiscardedFor reason s p following effect = effect ≡ effect_of (discard s (Labelled p following) reason 0)

-- a packet is all of its unit: its unit can't be segmented, or its range has all places of the data that the unit's initial PDU has
abbrev pub IsAllOfItsUnit : Packet → Type 0
IsAllOfItsUnit p =
    (p.unit.identifier ≡ None) ⊎ ((p.offset ≡ 0) × (p.unit.total ≤ header_length (value_of p) + p.length))

-- a packet that is sent wasn't forwarded yet, or goes on from the one that came
abbrev pub IsFirstOrGoesOn : SystemState → Input → Output → Type 0
IsFirstOrGoesOn s input (Transmits port target packet) = (packet.hops ≡ 0) ⊎ GoesOnOf s port input packet
IsFirstOrGoesOn s input _ = Unit {0}

-- a packet that is sent and that nobody forwarded yet is of a unit of the system's own
abbrev pub IsOwnWhereFirst : SystemState → Output → Type 0
IsOwnWhereFirst s (Transmits port target packet) = packet.hops ≡ 0 → packet.unit.maker ≡ DeclaredAt s.place
IsOwnWhereFirst s _ = Unit {0}
