-- No system notes that a frame is of no protocol where what comes begins with a PDU.
use Rattle.clnp_machine.proofs.ClnpBase.Lists.{AllByRecursion-append, AllByRecursion-implies, AllByRecursion-map_any}
use Rattle.std.proofs.Common.{ℕ, inl, inr, Bool, true, false, List, [], ◌∷◌, length}
use Rattle.std.specs.Prelude.{if◌then◌else◌, slice_get, Option, None, Some}
use Rattle.std.specs.List.{AllByRecursion, find}
use Rattle.std.proofs.lemmas.Bool.{cases_Bool}
use Rattle.clnp_machine.specs.ClnpOptions.Parameter.{Parameter}
use Rattle.clnp_machine.specs.PduHeader.Rules.{is_reportable}
use Rattle.clnp_machine.specs.Pdus.declared.pdu_header.kind.Kind.{Kind}
use Rattle.clnp_machine.specs.Pdus.declared.pdu_header.kind.Kind.TheVariants.{Dt, Er, Erq, Erp}
use Rattle.clnp_machine.specs.ClnpPlan.Journal.{Line, Noted}
use Rattle.clnp_machine.specs.ClnpPlan.declared.ask.Ask.{Ask}
use Rattle.clnp_machine.specs.ClnpPlan.declared.note.Note.{Note}
use Rattle.clnp_machine.specs.ClnpPlan.declared.note.Note.TheVariants.{Alien, Refused}
use Rattle.clnp_machine.specs.Reassembly.Arrival.{Arrival}
use Rattle.clnp_machine.specs.Reassembly.Buffer as buffer
use Rattle.clnp_machine.specs.Reassembly.Buffer.{Answer, Buffer}
use Rattle.clnp_machine.specs.SystemTables.declared.esis_tables.fact.Neighbour.{Neighbour}
use Rattle.clnp_machine.specs.Unit.{DataUnit, Packet, value_of}
use Rattle.clnp_machine.specs.Content.{Content, Labelled, Esis, Unlabelled, frame_of}
use Rattle.clnp_machine.specs.System.{SystemState, Input, AsksToSend, AsksForEcho, FrameComes, MomentComes, IsRestarted, IsCongested, IsChanged, Transmits, Effect, table_limits, then_does}
use Rattle.clnp_machine.specs.Local as locally
use Rattle.clnp_machine.specs.Local.{Action, Deed, data_in, discard, echo_ask, hand_up, is_all, is_answer, make, offer, offered, receive, refusal, reports_from, takes_in, takes_reply, tick, unit_of, unless_refused}
use Rattle.clnp_machine.specs.Esis.{esis_comes, forgets, says_hello}
use Rattle.clnp_machine.specs.Step.{content_comes, effect_of, hop_by, options_behind, packet_comes, redirects, responds, step, transmissions}
use Rattle.clnp_machine.specs.EveryStep.{NotesOnly, OnlyHellos}
use Rattle.clnp_machine.specs.Told.{IsRefusal, NoteIsQuiet, SpellsPdus, TellsOnly}
use Rattle.clnp_machine.proofs.Hellos.{only_then}
use Rattle.clnp_machine.proofs.Passing.{packet_does, redirects_are}
use Rattle.clnp_machine.specs.ScenarioPlan.Plan.{IsClosed, IsFit, Plan}
use Rattle.clnp_machine.specs.ClnpPlan.declared.scenario_plan.event.Move.{Move}
use Rattle.clnp_machine.specs.ClnpNetwork.LabelledNetwork.{first_world}
use Rattle.clnp_machine.specs.ClnpNetwork.Run.{Entry, entries_of}
use Rattle.clnp_machine.specs.ClnpNetwork.Safe.{NoneIsAlien}
use Rattle.clnp_safety.specs.StepLaws.{StepLaws}
use Rattle.clnp_safety.proofs.Lines.{LineIs}
use Rattle.clnp_safety.proofs.Standing.{first_stands, moves_note}
use Rattle.clnp_safety.proofs.Told.{hellos_note, outputs_note}

-- a note says nothing of a frame of no protocol
abbrev pub IsKnown : Note → Type 0
IsKnown Alien = ⊥
IsKnown _ = Unit {0}

quiet_is_known : (note : Note) → NoteIsQuiet note → IsKnown note
quiet_is_known Alien quiet = quiet
quiet_is_known _ quiet = tt

told_known : (action : Action) → TellsOnly NoteIsQuiet action → TellsOnly IsKnown action
told_known (locally.Tells told) quiet = quiet_is_known told quiet
told_known (locally.Sends u) quiet = tt

-- What a system does for its own addresses.

abbrev Tells : Deed → Type 0
Tells deed = AllByRecursion (TellsOnly IsKnown) deed.actions

one_tells : (test : Bool) (first second : Deed) → Tells first → Tells second → Tells (if test then first else second)
one_tells true first second h k = h
one_tells false first second h k = k

reports_tell : (s : SystemState) (frame : List ℕ) (reason place : ℕ) (own : Option (List ℕ)) → Tells (reports_from own s frame reason place)
reports_tell s frame reason place None = tt
reports_tell s frame reason place (Some own) =
    elim (cases_Bool (is_reportable frame)) [ inl wanted ↦ rw wanted (tt, (tt, tt)) | inr unwanted ↦ rw unwanted tt ]

discard_tells : (s : SystemState) (frame : Content) (reason place : ℕ) → Tells (discard s frame reason place)
discard_tells s frame reason place = (tt, reports_tell s (frame_of frame) reason place (slice_get s.configuration.addresses 0))

module _ (laws : StepLaws) where
  unless_tells : (s : SystemState) (u : DataUnit) (refused : Option Note) → IsRefusal refused → Tells (unless_refused refused s u)
  unless_tells s u None refuses = (tt, (tt, tt))
  unless_tells s u (Some (Refused why value)) refuses = (tt, tt)
  unless_tells s u (Some _) refuses = absurd refuses

  make_tells : (s : SystemState) (kind : Kind) (from to octets : List ℕ) (ask : Ask) → Tells (make s kind from to octets ask)
  make_tells s kind from to octets ask =
      let u : DataUnit = unit_of s kind from to octets ask in unless_tells s u (refusal s u) (laws.deeds.refused s u)

  reply_tells : (s : SystemState) (source destination octets : List ℕ) (found : Option DataUnit) → Tells (takes_reply s source destination octets found)
  reply_tells s source destination octets None = (tt, tt)
  reply_tells s source destination octets (Some request) = (tt, tt)

  hand_up_tells : (s : SystemState) (kind : Kind) (source destination octets : List ℕ) (options : List Parameter)
      → Tells (hand_up s kind source destination octets options)
  hand_up_tells s Dt source destination octets options = (tt, tt)
  hand_up_tells s Er source destination octets options = (tt, tt)
  hand_up_tells s Erq source destination octets options =
      make_tells s Erp destination source octets (echo_ask s destination source (length octets) false)
  hand_up_tells s Erp source destination octets options =
      reply_tells s source destination octets (find (is_answer source destination octets) s.pending)

  takes_in_tells : (s : SystemState) (frame : Content) (arrival : Arrival Packet) (kept : List (Buffer Packet)) (answer : Answer)
      → Tells (takes_in s frame arrival kept answer)
  takes_in_tells s frame arrival kept buffer.Held = (tt, tt)
  takes_in_tells s frame arrival kept buffer.Whole =
      hand_up_tells (record s { buffers = buffer.without arrival.key kept }) arrival.carried.unit.kind arrival.key.from arrival.key.to
      (data_in (buffer.buffer_of arrival.key kept)) arrival.carried.options
  takes_in_tells s frame arrival kept (buffer.Interference there other) = (tt, discard_tells s frame _ 0)
  takes_in_tells s frame arrival kept buffer.Repeat = (tt, tt)
  takes_in_tells s frame arrival kept (buffer.NoSlot live) = (tt, discard_tells s frame _ 0)
  takes_in_tells s frame arrival kept (buffer.Crowded held size) = (tt, discard_tells s frame _ 0)
  takes_in_tells s frame arrival kept (buffer.Many segments) = (tt, discard_tells s frame _ 0)

  receive_tells : (s : SystemState) (p : Packet) (following : List ℕ) → Tells (receive s p following)
  receive_tells s p following =
      one_tells (is_all p) (hand_up s p.unit.kind p.unit.source p.unit.destination (value_of p).body p.options)
      (offer s (Labelled p following) (offered p following))
      (hand_up_tells s p.unit.kind p.unit.source p.unit.destination (value_of p).body p.options)
      (takes_in_tells s (Labelled p following) (offered p following) (buffer.after (table_limits s) s.moment (offered p following) s.buffers)
      (buffer.answer (table_limits s) s.moment (offered p following) s.buffers))

  -- What a step gives out.

  abbrev NoteKnown : Effect → Type 0
  NoteKnown effect = AllByRecursion (NotesOnly IsKnown) effect.outputs

  by_deed : (deed : Deed) → Tells deed → NoteKnown (effect_of deed)
  by_deed deed tells = outputs_note laws IsKnown quiet_is_known deed.after deed.actions tells

  -- an effect, and then what is said of it to others
  then_known : (effect : Effect) (next : SystemState → Effect) → NoteKnown effect → OnlyHellos effect.after (next effect.after)
      → NoteKnown (then_does effect next)
  then_known effect next first only =
      AllByRecursion-append (NotesOnly IsKnown) effect.outputs (next effect.after).outputs first
      (hellos_note IsKnown quiet_is_known (next effect.after).outputs only.outputs)

  packet_known : (s : SystemState) (came : Neighbour) (p : Packet) (following : List ℕ) → NoteKnown (packet_comes s came p following)
  packet_known s came p following =
      packet_does NoteKnown s came p following
      (λ reason of_none. by_deed (discard s (Labelled p following) reason 0) (discard_tells s (Labelled p following) reason 0))
      (λ router way port pieces there alive gives known.
      let options = options_behind s p.options in
      let hop = hop_by way in
      AllByRecursion-append (NotesOnly IsKnown) (transmissions hop (Some pieces)) (redirects s came p options way)
      (AllByRecursion-map_any (NotesOnly IsKnown) (λ piece. Transmits hop.port hop.target piece) pieces (λ piece. tt))
      (redirects_are (NotesOnly IsKnown) s came p options way (λ to. tt)))
      (tt, tt)
      (λ own. by_deed (receive s p following) (receive_tells s p following))

  content_known : (s : SystemState) (port : ℕ) (sender : List ℕ) (to_group : Bool) (content : Content)
      → SpellsPdus (FrameComes port sender to_group content) → NoteKnown (content_comes s (record { port = port; snpa = sender }) to_group content)
  content_known s port sender to_group (Labelled p following) spells =
      let from : Neighbour = record { port = port; snpa = sender } in
      let comes = packet_comes s from p following in
      then_known comes (λ t. responds t from to_group p) (packet_known s from p following) (laws.hellos.answers comes.after from to_group p)
  content_known s port sender to_group (Esis value following) spells =
      let from : Neighbour = record { port = port; snpa = sender } in
      hellos_note IsKnown quiet_is_known (esis_comes s from value).outputs (laws.hellos.comes s from value).outputs
  content_known s port sender to_group (Unlabelled octets) spells = absurd spells

  pub step_known : (s : SystemState) (input : Input) → SpellsPdus input → AllByRecursion (NotesOnly IsKnown) (step s input).outputs
  step_known s (AsksToSend from to octets ask) spells = by_deed (make s Dt from to octets ask) (make_tells s Dt from to octets ask)
  step_known s (AsksForEcho from to octets) spells =
      let ask : Ask = echo_ask s from to (length octets) true in by_deed (make s Erq from to octets ask) (make_tells s Erq from to octets ask)
  step_known s (FrameComes port sender to_group content) spells = content_known s port sender to_group content spells
  step_known s (MomentComes now) spells =
      let ticked = tick s now in
      let forgotten = forgets s.moment ticked.after in
      then_known (effect_of ticked) (λ t. then_does (forgets s.moment t) says_hello)
      (by_deed ticked
      (AllByRecursion-implies (TellsOnly NoteIsQuiet) (TellsOnly IsKnown) told_known ticked.actions (laws.deeds.tick s now)))
      (only_then ticked.after forgotten says_hello (laws.hellos.forgotten ticked.after s.moment) (laws.hellos.said forgotten.after))
  step_known s IsRestarted spells = (tt, tt)
  step_known s (IsCongested on) spells = (tt, tt)
  step_known s (IsChanged change) spells = tt

-- In a network whose own systems make all frames no line says so, however its clocks stand.

lines_known : (lines : List Line) → AllByRecursion (LineIs (λ name. IsKnown)) lines → NoneIsAlien lines
lines_known [] says = tt
lines_known (Noted now name Alien ∷ lines) says = says.0
lines_known (_ ∷ lines) says = lines_known lines says.1

pub none_is_alien : StepLaws → (plan : Plan) → IsFit plan → IsClosed plan → (moves : List Move)
    → AllByRecursion (λ (entry : Entry). NoneIsAlien entry.lines) (entries_of plan (first_world plan) moves)
none_is_alien laws plan fit closed moves =
    AllByRecursion-implies (λ (entry : Entry). AllByRecursion (LineIs (λ name. IsKnown)) entry.lines) (λ (entry : Entry). NoneIsAlien entry.lines)
    (λ entry says. lines_known entry.lines says) (entries_of plan (first_world plan) moves)
    (moves_note laws plan fit closed IsKnown (step_known laws)
    (record {
      port = λ now name number subnet snpa. tt;
      route = λ now name prefix. tt;
      unroute = λ now name prefix there. tt;
      resized = λ now subnet mtu. tt;
    })
    moves (first_world plan) (first_stands laws plan fit closed))
