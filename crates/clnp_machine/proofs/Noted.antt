-- What a system notes.
use Rattle.clnp_plan.proofs.ClnpBase.Lists.{AllByRecursion-append, AllByRecursion-implies, AllByRecursion-map_any}
use Rattle.std.proofs.Common.{◌≡◌, ℕ, zero, suc, inl, inr, List, [], ◌∷◌, length, map, Bool, true, false, Contains, refl, ◌⊎◌}
use Rattle.std.specs.Prelude.{◌==◌, if◌then◌else◌, not, nat_lt, slice_get, Option, None, Some, option_map}
use Rattle.std.specs.List.{AllByRecursion, find, flat_map}
use Rattle.clnp_plan.specs.ClnpOptions.Parameter.{Parameter}
use Rattle.clnp_plan.specs.ClnpOptions.Reasons.{reason_code}
use Rattle.clnp_plan.specs.Pdus.declared.clnp_options.judge.OptionRefusal.{OptionRefusal}
use Rattle.clnp_plan.specs.Pdus.declared.clnp_options.reasons.Reason.TheVariants.{LifetimeExpiredInReassembly, NotSpecified}
use Rattle.clnp_plan.specs.Pdus.declared.pdu_header.kind.Kind.{Kind}
use Rattle.clnp_plan.specs.Pdus.declared.pdu_header.kind.Kind.TheVariants.{Dt, Er, Erq, Erp}
use Rattle.clnp_plan.specs.PduHeader.Rules.{is_reportable, octet, refusal as rule_broken}
use Rattle.system_tables.specs.Reassembly.Arrival.{Arrival}
use Rattle.system_tables.specs.Reassembly.Buffer as buffer
use Rattle.system_tables.specs.Reassembly.Buffer.{Answer, Buffer}
use Rattle.pdus.specs.declared.esis_pdus.pdu.EsisRefusal.{EsisRefusal}
use Rattle.pdus.specs.declared.esis_pdus.pdu.EsisRefusal.TheVariants.{NotEsis, Broken}
use Rattle.pdus.specs.EsisPdus.Rules.{why_refused}
use Rattle.clnp_plan.specs.SystemTables.declared.esis_tables.fact.Neighbour.{Neighbour}
use Rattle.clnp_plan.specs.declared.ask.Ask.{Ask}
use Rattle.clnp_plan.specs.declared.config.PortConfig.{PortConfig}
use Rattle.clnp_plan.specs.declared.note.Note.{Note}
use Rattle.clnp_plan.specs.declared.note.Note.TheVariants.{BadEsis, Discard, Echoed, Expired, Gone, Got, Hear, Ignored, Port, Refused, Report, Restart, Route, Sent, Stray, Unroute}
use Rattle.clnp_plan.specs.declared.note.Why.{Why}
use Rattle.clnp_plan.specs.declared.note.Why.TheVariants as why
use Rattle.clnp_machine.specs.Identifiers.{NotDrawn, IsQuiet, IsBusy, not_drawn}
use Rattle.clnp_machine.specs.Unit.{DataUnit, Packet, value_of, whole_packet, cut}
use Rattle.clnp_machine.specs.Content.{Content, Labelled, Esis, Unlabelled, frame_of}
use Rattle.clnp_machine.specs.System.{SystemState, Input, AsksToSend, AsksForEcho, FrameComes, MomentComes, IsRestarted, IsCongested, IsChanged, Output, Transmits, SendsEsis, Notes, Effect, then_does, table_limits}
use Rattle.clnp_machine.specs.Local.{Action, Sends, Tells, Deed, at_moment, data_in, discard, discard_first, echo_ask, expire, give_up_due, gives_up, hand_up, header_size, identifier_refusal, is_all, is_answer, is_own, make, makes, most_octets, not_drawn_note, offer, offered, receive, refusal, report_unit, reports_from, requests_echo, rests, sent_note, takes_in, takes_reply, tick, unit_of, unless_refused}
use Rattle.clnp_machine.specs.Esis.{esis_comes, forgets, says_hello}
use Rattle.clnp_machine.specs.Step.{Hop, unit_hop, transmissions, sent_on, first_sent, outputs_of, effect_of, packet_comes, discard_refused, unheard_note, octets_come, responds, content_comes, step, hop_by, options_behind, redirects}
use Rattle.clnp_machine.specs.EveryStep.{IsForOwn, IsNoChange, IsNoRestart, IsOfHellos, NotesOnly, OnlyHellos, RestartsNothing}
use Rattle.clnp_machine.specs.Told.{IsOfNoRule, IsRefusal, IsToldBy, NoteIsQuiet, NotesNoRule, SpellsPdus, TellsOnly}
use Rattle.clnp_machine.proofs.Hellos.{only_comes, only_forgets, only_responds, only_says_hello, only_then}
use Rattle.clnp_machine.proofs.Kept.{all_contained}
use Rattle.clnp_machine.proofs.Passing.{packet_does, redirects_are}
use Rattle.clnp_machine.proofs.Reasons.{congestion, expired, interference, segmentation, unknown}
use Rattle.clnp_plan.proofs.ClnpBase.Choices.{one_of}

-- Why a unit isn't made.

module _ (P : Option Note → Type 0) (unrefused : P None) (refused : (why : Why) (value : ℕ) → P (Some (Refused why value))) where
  not_drawn_such : (found : Option NotDrawn) → P (option_map not_drawn_note found)
  not_drawn_such None = unrefused
  not_drawn_such (Some (IsQuiet until)) = refused why.Quiet until
  not_drawn_such (Some (IsBusy used)) = refused why.IdsBusy used

  drawing_such : (s : SystemState) (identifier : Option ℕ) → P (identifier_refusal s identifier)
  drawing_such s None = unrefused
  drawing_such s (Some identifier) = not_drawn_such (not_drawn s.moment s.identifiers)

  first_of_two : (why : Why) (value : ℕ) (next : Option Note) (holds : Bool) → P next → P (if holds then Some (Refused why value) else next)
  first_of_two why value next holds h = one_of P holds (Some (Refused why value)) next (refused why value) h

  -- what holds of no note and of each refusal holds of what is noted in place of a unit
  pub refusal_such : (s : SystemState) (u : DataUnit) → P (refusal s u)
  refusal_such s u =
      first_of_two why.NotMine 0 _ (not (is_own s u.source))
      (first_of_two why.TooLong (length u.octets) _ (nat_lt most_octets (length u.octets))
      (first_of_two why.TooLong (header_size u) _ (nat_lt 254 (header_size u)) (drawing_such s u.identifier)))

pub refusal_refuses : (s : SystemState) (u : DataUnit) → IsRefusal (refusal s u)
refusal_refuses s u = refusal_such IsRefusal tt (λ why value. tt) s u

-- Sending tells of nothing but of units that are dropped.

-- a note that is made where a buffer ends, or a unit is sent
abbrev pub IsOfEnd : Note → Type 0
IsOfEnd (Sent kind number identifier source destination len) = Unit {0}
IsOfEnd (Expired id held) = Unit {0}
IsOfEnd (Discard reason place) = IsOfNoRule reason
IsOfEnd _ = ⊥

pieces_end : (Q : Note → Type 0) (hop : Hop) (pieces : List Packet) → AllByRecursion (NotesOnly Q) (map (λ piece. Transmits hop.port hop.target piece) pieces)
pieces_end Q hop pieces = AllByRecursion-map_any (NotesOnly Q) (λ piece. Transmits hop.port hop.target piece) pieces (λ piece. tt)

transmissions_end : (hop : Hop) (pieces : Option (List Packet)) → AllByRecursion (NotesOnly IsOfEnd) (transmissions hop pieces)
transmissions_end hop None = (segmentation, tt)
transmissions_end hop (Some pieces) = pieces_end IsOfEnd hop pieces

sent_ends : (hop : Hop) (port : Option PortConfig) (u : DataUnit) → AllByRecursion (NotesOnly IsOfEnd) (sent_on hop port u)
sent_ends hop None u = (unknown, tt)
sent_ends hop (Some port) u = transmissions_end hop (cut (whole_packet u) port.mtu)

first_sent_ends : (s : SystemState) (u : DataUnit) (hop : Option Hop) → AllByRecursion (NotesOnly IsOfEnd) (first_sent s u hop)
first_sent_ends s u None = (unknown, tt)
first_sent_ends s u (Some hop) = sent_ends hop (slice_get s.attached.ports hop.port) u

pub output_notes : (P Q : Note → Type 0) → ((note : Note) → P note → Q note) → (output : Output) → NotesOnly P output → NotesOnly Q output
output_notes P Q f (Transmits port target packet) h = tt
output_notes P Q f (SendsEsis port target value) h = tt
output_notes P Q f (Notes note) h = f note h

-- what is noted where a system does this
outputs_note : (Q : Note → Type 0) → ((note : Note) → IsOfEnd note → Q note) → (s : SystemState) (actions : List Action)
    → AllByRecursion (TellsOnly Q) actions → AllByRecursion (NotesOnly Q) (flat_map (outputs_of s) actions)
outputs_note Q ends s [] h = tt
outputs_note Q ends s (Tells told ∷ actions) h = (h.0, outputs_note Q ends s actions h.1)
outputs_note Q ends s (Sends u ∷ actions) h =
    AllByRecursion-append (NotesOnly Q) (first_sent s u (unit_hop s u)) (flat_map (outputs_of s) actions)
    (AllByRecursion-implies (NotesOnly IsOfEnd) (NotesOnly Q) (output_notes IsOfEnd Q ends) (first_sent s u (unit_hop s u))
    (first_sent_ends s u (unit_hop s u)))
    (outputs_note Q ends s actions h.1)

-- what actions tell, they tell

end_is_quiet : (note : Note) → IsOfEnd note → NoteIsQuiet note
end_is_quiet (Sent kind number identifier source destination len) h = tt
end_is_quiet (Expired id held) h = tt
end_is_quiet (Discard reason place) h = tt
end_is_quiet _ h = absurd h

told_is_told : (action : Action) (actions : List Action) → Contains actions action → TellsOnly (IsToldBy actions) action
told_is_told (Tells told) actions there = inl there
told_is_told (Sends u) actions there = tt

pub notes_are_told : (s : SystemState) (actions : List Action) → AllByRecursion (NotesOnly (IsToldBy actions)) (flat_map (outputs_of s) actions)
notes_are_told s actions =
    outputs_note (IsToldBy actions) (λ note ends. inr (end_is_quiet note ends)) s actions
    (AllByRecursion-implies (Contains actions) (TellsOnly (IsToldBy actions)) (λ action there. told_is_told action actions there) actions (all_contained actions))

-- Where a frame is discarded.

abbrev TellOnly : (Note → Type 0) → Deed → Type 0
TellOnly Q deed = AllByRecursion (TellsOnly Q) deed.actions

module _ (Q : Note → Type 0) (sent : (u : DataUnit) → Q (sent_note u)) where
  one_tells : (test : Bool) (first second : Deed) → (test ≡ true → TellOnly Q first) → TellOnly Q second → TellOnly Q (if test then first else second)
  one_tells true first second h k = h refl
  one_tells false first second h k = k

  reports_tell : (t : SystemState) (found : Option (List ℕ)) (frame : List ℕ) (reason place : ℕ) → TellOnly Q (reports_from found t frame reason place)
  reports_tell t None frame reason place = tt
  reports_tell t (Some own) frame reason place =
      one_tells (is_reportable frame) (makes t (report_unit t own frame reason place)) (rests t) (λ is. (sent (report_unit t own frame reason place), (tt, tt))) tt

  discard_tells : (t : SystemState) (frame : Content) (reason place : ℕ) → Q (Discard reason place) → TellOnly Q (discard t frame reason place)
  discard_tells t frame reason place h = (h, reports_tell t (slice_get t.configuration.addresses 0) (frame_of frame) reason place)

-- Where buffers end, nothing is handed up.

sent_ends_none : (u : DataUnit) → IsOfEnd (sent_note u)
sent_ends_none u = tt

first_discarded_ends : (s : SystemState) (first : Option Packet) → TellOnly IsOfEnd (discard_first s first)
first_discarded_ends s None = tt
first_discarded_ends s (Some p) = discard_tells IsOfEnd sent_ends_none s (Labelled p []) (reason_code LifetimeExpiredInReassembly) 0 expired

given_up_ends : (due : Option (Buffer Packet)) (s : SystemState) (next : SystemState → Deed) → ((t : SystemState) → TellOnly IsOfEnd (next t))
    → TellOnly IsOfEnd (give_up_due due s next)
given_up_ends None s next h = tt
given_up_ends (Some ended) s next h = (
  tt,
  AllByRecursion-append (TellsOnly IsOfEnd) (discard_first (record s { buffers = buffer.without ended.key s.buffers }) (buffer.first_carried ended)).actions
      (next (gives_up s ended).after).actions
      (first_discarded_ends (record s { buffers = buffer.without ended.key s.buffers }) (buffer.first_carried ended)) (h (gives_up s ended).after),
)

expiry_ends : (most : ℕ) (s : SystemState) → TellOnly IsOfEnd (expire most s)
expiry_ends zero s = tt
expiry_ends (suc most) s = given_up_ends (buffer.due s.moment s.buffers) s (expire most) (expiry_ends most)

action_tells : (P Q : Note → Type 0) → ((note : Note) → P note → Q note) → (action : Action) → TellsOnly P action → TellsOnly Q action
action_tells P Q f (Tells told) h = f told h
action_tells P Q f (Sends u) h = tt

tick_tells : (Q : Note → Type 0) → ((note : Note) → IsOfEnd note → Q note) → (s : SystemState) (now : ℕ) → TellOnly Q (tick s now)
tick_tells Q ends s now =
    AllByRecursion-implies (TellsOnly IsOfEnd) (TellsOnly Q) (action_tells IsOfEnd Q ends) (tick s now).actions (expiry_ends (length s.buffers) (at_moment now s))

pub tick_is_quiet : (s : SystemState) (now : ℕ) → AllByRecursion (TellsOnly NoteIsQuiet) (tick s now).actions
tick_is_quiet s now = tick_tells NoteIsQuiet end_is_quiet s now

-- What is noted in a step.

-- octets come that spell no PDU
abbrev pub IsUnspelled : Input → Type 0
IsUnspelled (FrameComes port sender to_group (Unlabelled octets)) = Unit {0}
IsUnspelled _ = ⊥

-- the system is restarted
abbrev pub Restarts : Input → Type 0
Restarts IsRestarted = Unit {0}
Restarts _ = ⊥

-- What a note says is handed up for an address of the system; a discard is for no rule, and no ES-IS rule is broken, but where
-- octets come that spell no PDU; the system was restarted only where it is; and no note is of a change.
abbrev pub IsNoted : SystemState → Input → Note → Type 0
IsNoted s input (Got from to octets) = is_own s to ≡ true
IsNoted s input (Report from to reason place octets) = is_own s to ≡ true
IsNoted s input (Echoed from to unit) = is_own s to ≡ true
IsNoted s input (Stray from to) = is_own s to ≡ true
IsNoted s input (Discard reason place) = IsOfNoRule reason ⊎ IsUnspelled input
IsNoted s input (BadEsis rule place) = IsUnspelled input
IsNoted s input Restart = Restarts input
IsNoted s input (Route prefix) = ⊥
IsNoted s input (Unroute prefix there) = ⊥
IsNoted s input (Port port subnet snpa) = ⊥
IsNoted s input _ = Unit {0}

module _ (s : SystemState) (input : Input) where
  abbrev Tell : Deed → Type 0
  Tell deed = TellOnly (IsNoted s input) deed

  sent_noted : (u : DataUnit) → IsNoted s input (sent_note u)
  sent_noted u = tt

  end_noted : (note : Note) → IsOfEnd note → IsNoted s input note
  end_noted (Sent kind number identifier source destination len) h = tt
  end_noted (Expired id held) h = tt
  end_noted (Discard reason place) h = inl h
  end_noted _ h = absurd h

  unless_refused_tells : (t : SystemState) (u : DataUnit) (refused : Option Note) → IsRefusal refused → Tell (unless_refused refused t u)
  unless_refused_tells t u None h = (tt, (tt, tt))
  unless_refused_tells t u (Some (Refused why value)) h = (tt, tt)
  unless_refused_tells t u (Some _) h = absurd h

  make_tells : (t : SystemState) (kind : Kind) (from to octets : List ℕ) (ask : Ask) → Tell (make t kind from to octets ask)
  make_tells t kind from to octets ask =
      unless_refused_tells t (unit_of t kind from to octets ask) (refusal t (unit_of t kind from to octets ask))
      (refusal_refuses t (unit_of t kind from to octets ask))

  takes_reply_tells : (t : SystemState) (source destination octets : List ℕ) (found : Option DataUnit) → is_own s destination ≡ true
      → Tell (takes_reply t source destination octets found)
  takes_reply_tells t source destination octets None own = (own, tt)
  takes_reply_tells t source destination octets (Some request) own = (own, tt)

  hand_up_tells : (t : SystemState) (kind : Kind) (source destination octets : List ℕ) (options : List Parameter) → is_own s destination ≡ true
      → Tell (hand_up t kind source destination octets options)
  hand_up_tells t Dt source destination octets options own = (own, tt)
  hand_up_tells t Er source destination octets options own = (own, tt)
  hand_up_tells t Erq source destination octets options own =
      make_tells t Erp destination source octets (echo_ask t destination source (length octets) false)
  hand_up_tells t Erp source destination octets options own =
      takes_reply_tells t source destination octets (find (is_answer source destination octets) t.pending) own

  drops_tell : (t : SystemState) (frame : Content) (reason place : ℕ) → IsOfNoRule reason → Tell (discard t frame reason place)
  drops_tell t frame reason place of_none = discard_tells (IsNoted s input) sent_noted t frame reason place (inl of_none)

  takes_in_tells : (t : SystemState) (frame : Content) (arrival : Arrival Packet) (kept : List (Buffer Packet)) (answer : Answer)
      → is_own s arrival.key.to ≡ true → Tell (takes_in t frame arrival kept answer)
  takes_in_tells t frame arrival kept buffer.Held own = (tt, tt)
  takes_in_tells t frame arrival kept buffer.Whole own =
      hand_up_tells (record t { buffers = buffer.without arrival.key kept }) arrival.carried.unit.kind arrival.key.from arrival.key.to
      (data_in (buffer.buffer_of arrival.key kept)) arrival.carried.options own
  takes_in_tells t frame arrival kept (buffer.Interference there other) own = (tt, drops_tell t frame _ 0 interference)
  takes_in_tells t frame arrival kept buffer.Repeat own = (tt, tt)
  takes_in_tells t frame arrival kept (buffer.NoSlot live) own = (tt, drops_tell t frame _ 0 congestion)
  takes_in_tells t frame arrival kept (buffer.Crowded held size) own = (tt, drops_tell t frame _ 0 congestion)
  takes_in_tells t frame arrival kept (buffer.Many segments) own = (tt, drops_tell t frame _ 0 congestion)

  receive_tells : (t : SystemState) (p : Packet) (following : List ℕ) → is_own s p.unit.destination ≡ true → Tell (receive t p following)
  receive_tells t p following own =
      one_tells (IsNoted s input) sent_noted (is_all p) (hand_up t p.unit.kind p.unit.source p.unit.destination (value_of p).body p.options)
      (offer t (Labelled p following) (offered p following))
      (λ all. hand_up_tells t p.unit.kind p.unit.source p.unit.destination (value_of p).body p.options own)
      (takes_in_tells t (Labelled p following) (offered p following) (buffer.after (table_limits t) t.moment (offered p following) t.buffers)
      (buffer.answer (table_limits t) t.moment (offered p following) t.buffers) own)

  refused_tells : (t : SystemState) (octets : List ℕ) (broken : Option OptionRefusal) → IsUnspelled input → Tell (discard_refused t octets broken)
  refused_tells t octets None un = discard_tells (IsNoted s input) sent_noted t (Unlabelled octets) (reason_code NotSpecified) 0 (inr un)
  refused_tells t octets (Some broken) un = discard_tells (IsNoted s input) sent_noted t (Unlabelled octets) broken.reason broken.place (inr un)

  unheard_noted : (broken : Option EsisRefusal) → IsUnspelled input → IsNoted s input (unheard_note broken)
  unheard_noted None un = tt
  unheard_noted (Some NotEsis) un = tt
  unheard_noted (Some (Broken rule place)) un = un

  octets_tell : (t : SystemState) (octets : List ℕ) → IsUnspelled input → Tell (octets_come t octets)
  octets_tell t octets un =
      one_tells (IsNoted s input) sent_noted (octet octets 1 == 0x81) (discard_refused t octets (rule_broken octets)) _
      (λ begun. refused_tells t octets (rule_broken octets) un) (unheard_noted (why_refused octets) un, tt)

  -- What is given out.

  abbrev NoteAll : Effect → Type 0
  NoteAll effect = AllByRecursion (NotesOnly (IsNoted s input)) effect.outputs

  by_deed : (deed : Deed) → Tell deed → NoteAll (effect_of deed)
  by_deed deed h = outputs_note (IsNoted s input) end_noted deed.after deed.actions h

  hello_noted : (output : Output) → IsOfHellos output → NotesOnly (IsNoted s input) output
  hello_noted (SendsEsis port target value) h = tt
  hello_noted (Notes (Hear table key heard)) h = tt
  hello_noted (Notes (Gone table key)) h = tt
  hello_noted (Notes (Ignored rd)) h = tt
  hello_noted (Transmits port target packet) h = absurd h
  hello_noted (Notes _) h = absurd h

  by_hellos : (t : SystemState) (effect : Effect) → OnlyHellos t effect → NoteAll effect
  by_hellos t effect h = AllByRecursion-implies IsOfHellos (NotesOnly (IsNoted s input)) hello_noted effect.outputs h.outputs

  -- an effect, and then what is said and heard
  then_notes : (effect : Effect) (next : SystemState → Effect) → NoteAll effect → OnlyHellos effect.after (next effect.after) → NoteAll (then_does effect next)
  then_notes effect next h k =
      AllByRecursion-append (NotesOnly (IsNoted s input)) effect.outputs (next effect.after).outputs h (by_hellos effect.after (next effect.after) k)

  packet_notes : (came : Neighbour) (p : Packet) (following : List ℕ) → NoteAll (packet_comes s came p following)
  packet_notes came p following =
      packet_does NoteAll s came p following
      (λ reason of_none. by_deed (discard s (Labelled p following) reason 0) (drops_tell s (Labelled p following) reason 0 of_none))
      (λ router way port pieces there alive gives known.
      let options = options_behind s p.options in
      AllByRecursion-append (NotesOnly (IsNoted s input)) (transmissions (hop_by way) (Some pieces)) (redirects s came p options way)
      (pieces_end (IsNoted s input) (hop_by way) pieces) (redirects_are (NotesOnly (IsNoted s input)) s came p options way (λ to. tt)))
      (tt, tt)
      (λ own. by_deed (receive s p following) (receive_tells s p following own))

content_notes : (s : SystemState) (port : ℕ) (sender : List ℕ) (to_group : Bool) (content : Content)
    → NoteAll s (FrameComes port sender to_group content) (content_comes s (record { port = port; snpa = sender }) to_group content)
content_notes s port sender to_group (Labelled p following) =
    let neighbour : Neighbour = record { port = port; snpa = sender } in
    let input : Input = FrameComes port sender to_group (Labelled p following) in
    then_notes s input (packet_comes s neighbour p following) (λ t. responds t neighbour to_group p) (packet_notes s input neighbour p following)
    (only_responds (packet_comes s neighbour p following).after neighbour to_group p)
content_notes s port sender to_group (Esis value following) =
    let neighbour : Neighbour = record { port = port; snpa = sender } in
    by_hellos s (FrameComes port sender to_group (Esis value following)) s (esis_comes s neighbour value) (only_comes s neighbour value)
content_notes s port sender to_group (Unlabelled octets) =
    let input : Input = FrameComes port sender to_group (Unlabelled octets) in by_deed s input (octets_come s octets) (octets_tell s input s octets tt)

step_notes : (s : SystemState) (input : Input) → AllByRecursion (NotesOnly (IsNoted s input)) (step s input).outputs
step_notes s (AsksToSend from to octets ask) =
    let input : Input = AsksToSend from to octets ask in by_deed s input (make s Dt from to octets ask) (make_tells s input s Dt from to octets ask)
step_notes s (AsksForEcho from to octets) =
    let input : Input = AsksForEcho from to octets in
    by_deed s input (requests_echo s from to octets) (make_tells s input s Erq from to octets (echo_ask s from to (length octets) true))
step_notes s (FrameComes port sender to_group content) = content_notes s port sender to_group content
step_notes s (MomentComes now) =
    let input : Input = MomentComes now in
    let ticked = (tick s now).after in
    then_notes s input (effect_of (tick s now)) (λ t. then_does (forgets s.moment t) says_hello)
    (by_deed s input (tick s now) (tick_tells (IsNoted s input) (end_noted s input) s now))
    (only_then ticked (forgets s.moment ticked) says_hello (only_forgets s.moment ticked) (only_says_hello ticked))
step_notes s IsRestarted = (tt, tt)
step_notes s (IsCongested on) = (tt, tt)
step_notes s (IsChanged change) = tt

-- What that says.

noted_own : (s : SystemState) (input : Input) (note : Note) → IsNoted s input note → IsForOwn s note
noted_own s input (Got from to octets) h = h
noted_own s input (Report from to reason place octets) h = h
noted_own s input (Echoed from to unit) h = h
noted_own s input (Stray from to) h = h
noted_own s input _ h = tt

pub step_is_own : (s : SystemState) (input : Input) → AllByRecursion (NotesOnly (IsForOwn s)) (step s input).outputs
step_is_own s input =
    AllByRecursion-implies (NotesOnly (IsNoted s input)) (NotesOnly (IsForOwn s)) (output_notes (IsNoted s input) (IsForOwn s) (noted_own s input))
    (step s input).outputs (step_notes s input)

all_spelled : (input : Input) → SpellsPdus input → IsUnspelled input → ⊥
all_spelled (FrameComes port sender to_group (Unlabelled octets)) h un = h
all_spelled (FrameComes port sender to_group (Labelled p following)) h un = un
all_spelled (FrameComes port sender to_group (Esis value following)) h un = un
all_spelled (AsksToSend from to octets ask) h un = un
all_spelled (AsksForEcho from to octets) h un = un
all_spelled (MomentComes now) h un = un
all_spelled IsRestarted h un = un
all_spelled (IsCongested on) h un = un
all_spelled (IsChanged change) h un = un

noted_ruleless : (s : SystemState) (input : Input) → SpellsPdus input → (note : Note) → IsNoted s input note → NotesNoRule note
noted_ruleless s input spells (Discard reason place) (inl of_none) = of_none
noted_ruleless s input spells (Discard reason place) (inr un) = absurd (all_spelled input spells un)
noted_ruleless s input spells (BadEsis rule place) h = all_spelled input spells h
noted_ruleless s input spells _ h = tt

pub step_ruleless : (s : SystemState) (input : Input) → SpellsPdus input → AllByRecursion (NotesOnly NotesNoRule) (step s input).outputs
step_ruleless s input spells =
    AllByRecursion-implies (NotesOnly (IsNoted s input)) (NotesOnly NotesNoRule) (output_notes (IsNoted s input) NotesNoRule (noted_ruleless s input spells))
    (step s input).outputs (step_notes s input)

not_restarted : (input : Input) → RestartsNothing input → Restarts input → ⊥
not_restarted IsRestarted h is = h
not_restarted (AsksToSend from to octets ask) h is = is
not_restarted (AsksForEcho from to octets) h is = is
not_restarted (FrameComes port sender to_group content) h is = is
not_restarted (MomentComes now) h is = is
not_restarted (IsCongested on) h is = is
not_restarted (IsChanged change) h is = is

noted_restart : (s : SystemState) (input : Input) → RestartsNothing input → (note : Note) → IsNoted s input note → IsNoRestart note
noted_restart s input none Restart h = not_restarted input none h
noted_restart s input none _ h = tt

pub step_restarts_not : (s : SystemState) (input : Input) → RestartsNothing input → AllByRecursion (NotesOnly IsNoRestart) (step s input).outputs
step_restarts_not s input none =
    AllByRecursion-implies (NotesOnly (IsNoted s input)) (NotesOnly IsNoRestart) (output_notes (IsNoted s input) IsNoRestart (noted_restart s input none))
    (step s input).outputs (step_notes s input)

noted_no_change : (s : SystemState) (input : Input) (note : Note) → IsNoted s input note → IsNoChange note
noted_no_change s input (Route prefix) h = h
noted_no_change s input (Unroute prefix there) h = h
noted_no_change s input (Port port subnet snpa) h = h
noted_no_change s input _ h = tt

pub step_changes_not : (s : SystemState) (input : Input) → AllByRecursion (NotesOnly IsNoChange) (step s input).outputs
step_changes_not s input =
    AllByRecursion-implies (NotesOnly (IsNoted s input)) (NotesOnly IsNoChange) (output_notes (IsNoted s input) IsNoChange (noted_no_change s input))
    (step s input).outputs (step_notes s input)
