-- What comes in a frame makes a system make at most one unit.
use Rattle.std.proofs.Common.{sym, ap, subst, ℕ, ◌≤◌, inl, inr, Bool, false, List, ◌++◌, append-nil, length, Option, None, Some, arith}
use Rattle.std.specs.List.{find}
use Rattle.clnp_plan.specs.ClnpOptions.Parameter.{Parameter}
use Rattle.clnp_plan.specs.Pdus.declared.pdu_header.kind.Kind.{Kind}
use Rattle.clnp_plan.specs.Pdus.declared.pdu_header.kind.Kind.TheVariants.{Dt, Er, Erq, Erp}
use Rattle.system_tables.specs.Reassembly.Arrival.{Arrival}
use Rattle.system_tables.specs.Reassembly.Buffer as buffer
use Rattle.system_tables.specs.Reassembly.Buffer.{Answer, Buffer}
use Rattle.clnp_plan.specs.SystemTables.declared.esis_tables.fact.Neighbour.{Neighbour}
use Rattle.clnp_plan.specs.declared.note.Note.{Note}
use Rattle.clnp_plan.proofs.ClnpBase.Choices.{one_of}
use Rattle.clnp_machine.specs.Unit.{DataUnit, Packet, value_of}
use Rattle.clnp_machine.specs.Content.{Content, Esis, Labelled, Unlabelled, frame_of}
use Rattle.clnp_machine.specs.System.{SystemState, Effect, table_limits}
use Rattle.clnp_machine.specs.Local.{Deed, data_in, discard, echo_ask, hand_up, is_all, is_answer, made_in, offer, offered, receive, refusal, takes_in, takes_reply, unit_of, unless_refused}
use Rattle.clnp_machine.specs.Step.{content_comes, octets_come, packet_comes}
use Rattle.clnp_machine.specs.EveryStep.{IsAtMostReportOf}
use Rattle.clnp_machine.proofs.Answering.{octets_reported}
use Rattle.clnp_machine.proofs.Asked.{discard_makes}
use Rattle.clnp_machine.proofs.Hellos.{only_comes, only_responds}
use Rattle.clnp_machine.proofs.Passing.{packet_does}

-- at most one
abbrev AtMostOne : List DataUnit → Type 0
AtMostOne units = length units ≤ 1

report_at_most : (frame : List ℕ) (units : List DataUnit) → IsAtMostReportOf frame units → AtMostOne units
report_at_most frame units (inl none) = subst AtMostOne (sym none) (omega arith)
report_at_most frame units (inr one) = subst AtMostOne (sym one.1) (omega arith)

discard_one : (s : SystemState) (frame : Content) (reason place : ℕ) → AtMostOne (made_in (discard s frame reason place).actions)
discard_one s frame reason place = report_at_most (frame_of frame) (made_in (discard s frame reason place).actions) (discard_makes s frame reason place)

unless_one : (s : SystemState) (u : DataUnit) (refused : Option Note) → AtMostOne (made_in (unless_refused refused s u).actions)
unless_one s u None = omega arith
unless_one s u (Some told) = omega arith

reply_one : (s : SystemState) (source destination octets : List ℕ) (found : Option DataUnit) → AtMostOne (made_in (takes_reply s source destination octets found).actions)
reply_one s source destination octets None = omega arith
reply_one s source destination octets (Some request) = omega arith

hand_up_one : (s : SystemState) (kind : Kind) (source destination octets : List ℕ) (options : List Parameter)
    → AtMostOne (made_in (hand_up s kind source destination octets options).actions)
hand_up_one s Dt source destination octets options = omega arith
hand_up_one s Er source destination octets options = omega arith
hand_up_one s Erq source destination octets options =
    let u = unit_of s Erp destination source octets (echo_ask s destination source (length octets) false) in unless_one s u (refusal s u)
hand_up_one s Erp source destination octets options =
    reply_one s source destination octets (find (is_answer source destination octets) s.pending)

takes_in_one : (s : SystemState) (frame : Content) (arrival : Arrival Packet) (kept : List (Buffer Packet)) (answer : Answer)
    → AtMostOne (made_in (takes_in s frame arrival kept answer).actions)
takes_in_one s frame arrival kept buffer.Held = omega arith
takes_in_one s frame arrival kept buffer.Whole =
    hand_up_one (record s { buffers = buffer.without arrival.key kept }) arrival.carried.unit.kind arrival.key.from arrival.key.to
    (data_in (buffer.buffer_of arrival.key kept)) arrival.carried.options
takes_in_one s frame arrival kept (buffer.Interference there other) = discard_one s frame _ 0
takes_in_one s frame arrival kept buffer.Repeat = omega arith
takes_in_one s frame arrival kept (buffer.NoSlot live) = discard_one s frame _ 0
takes_in_one s frame arrival kept (buffer.Crowded held size) = discard_one s frame _ 0
takes_in_one s frame arrival kept (buffer.Many segments) = discard_one s frame _ 0

receive_one : (s : SystemState) (p : Packet) (following : List ℕ) → AtMostOne (made_in (receive s p following).actions)
receive_one s p following =
    let arrival = offered p following in
    one_of (λ (deed : Deed). AtMostOne (made_in deed.actions)) (is_all p)
    (hand_up s p.unit.kind p.unit.source p.unit.destination (value_of p).body p.options) (offer s (Labelled p following) arrival)
    (hand_up_one s p.unit.kind p.unit.source p.unit.destination (value_of p).body p.options)
    (takes_in_one s (Labelled p following) arrival (buffer.after (table_limits s) s.moment arrival s.buffers)
    (buffer.answer (table_limits s) s.moment arrival s.buffers))

packet_one : (s : SystemState) (came : Neighbour) (p : Packet) (following : List ℕ) → AtMostOne (packet_comes s came p following).units
packet_one s came p following =
    packet_does (λ (effect : Effect). AtMostOne effect.units) s came p following (λ reason of_none. discard_one s (Labelled p following) reason 0)
    (λ router way port pieces there alive gives known. omega arith) (omega arith) (λ mine. receive_one s p following)

pub content_one : (s : SystemState) (neighbour : Neighbour) (to_group : Bool) (content : Content) → length (content_comes s neighbour to_group content).units ≤ 1
content_one s neighbour to_group (Labelled p following) =
    let come = packet_comes s neighbour p following in
    let none = (only_responds come.after neighbour to_group p).units in
    subst AtMostOne (sym (ap (λ (more : List DataUnit). come.units ++ more) none)) (subst AtMostOne (sym (append-nil come.units)) (packet_one s neighbour p following))
content_one s neighbour to_group (Esis value following) = subst AtMostOne (sym (only_comes s neighbour value).units) (omega arith)
content_one s neighbour to_group (Unlabelled octets) =
    report_at_most octets (made_in (octets_come s octets).actions) (octets_reported s octets)
