-- At most one identifier is drawn in a step of a system, whatever comes to it: where one may be, for the one unit that is made.
use Rattle.std.proofs.Common.{◌≡◌, ◌∙◌, refl, sym, ap, subst, ℕ, zero, suc, inl, Bool, true, false, List, [], ◌++◌, length, Option, None, Some}
use Rattle.std.specs.Prelude.{◌==◌, if◌then◌else◌}
use Rattle.std.specs.List.{AllByRecursion, find}
use Rattle.std.proofs.lemmas.List.{append-nil}
use Rattle.clnp_machine.specs.ClnpOptions.Parameter.{Parameter}
use Rattle.clnp_machine.specs.ClnpOptions.Reasons.{reason_code}
use Rattle.clnp_machine.specs.Pdus.declared.clnp_options.judge.OptionRefusal.{OptionRefusal}
use Rattle.clnp_machine.specs.Pdus.declared.clnp_options.reasons.Reason.TheVariants.{Congestion, NotSpecified, ReassemblyInterference}
use Rattle.clnp_machine.specs.Pdus.declared.pdu_header.kind.Kind.{Kind}
use Rattle.clnp_machine.specs.Pdus.declared.pdu_header.kind.Kind.TheVariants.{Dt, Er, Erq, Erp}
use Rattle.clnp_machine.specs.PduHeader.Rules.{octet, refusal as rule_broken}
use Rattle.clnp_machine.specs.EsisPdus.Rules.{why_refused}
use Rattle.clnp_machine.specs.SystemTables.declared.esis_tables.fact.Neighbour.{Neighbour}
use Rattle.clnp_machine.specs.Reassembly.Arrival.{Arrival}
use Rattle.clnp_machine.specs.Reassembly.Buffer as buffer
use Rattle.clnp_machine.specs.Reassembly.Buffer.{Answer, Buffer}
use Rattle.clnp_machine.specs.ClnpPlan.declared.ask.Ask.{Ask}
use Rattle.clnp_machine.specs.ClnpPlan.declared.note.Note.{Note}
use Rattle.clnp_machine.specs.Identifiers.{Identifiers}
use Rattle.clnp_machine.specs.Unit.{DataUnit, Packet, value_of}
use Rattle.clnp_machine.specs.Content.{Content, Labelled, Esis, Unlabelled}
use Rattle.clnp_machine.specs.System.{SystemState, Input, AsksToSend, AsksForEcho, FrameComes, MomentComes, IsRestarted, IsCongested, IsChanged, Effect, table_limits, then_does}
use Rattle.clnp_machine.specs.Local.{Deed, at_moment, discard, echo_ask, expire, give_up_due, gives_up, hand_up, is_all, is_answer, made_in, make, offer, offered, receive, refusal, takes_in, takes_reply, tells, tick, unit_of, unless_refused}
use Rattle.clnp_machine.specs.Esis.{esis_comes, forgets, says_hello}
use Rattle.clnp_machine.specs.Step.{content_comes, discard_refused, moment_comes, octets_come, packet_comes, responds, step, unheard_note}
use Rattle.clnp_machine.specs.EveryStep.{OnlyHellos, RestartsNothing, moment_after}
use Rattle.clnp_machine.proofs.Passing.{packet_does}
use Rattle.clnp_safety.specs.StepLaws.{StepLaws}
use Rattle.clnp_safety.proofs.Deeds.{all_whole, discard_is_like, discard_reports}
use Rattle.clnp_safety.proofs.Draws.{Draws, DrawsNone, IsWhole}
use Rattle.clnp_safety.proofs.Hellos.{only_then}
use Rattle.clnp_safety.proofs.SendAsked.{made_draws}
use Rattle.clnp_safety.proofs.Ticking.{tick_reports}
use Rattle.clnp_machine.proofs.ClnpBase.Choices.{one_of}

draws_nothing : (now : ℕ) (ids : Identifiers) → Draws now ids ids []
draws_nothing now ids = inl (record { identifiers = refl; whole = tt })

-- nothing more is drawn, and no more units are made
draws_no_more : (now : ℕ) (before middle after : Identifiers) (units more : List DataUnit) → after ≡ middle → more ≡ []
    → Draws now before middle units → Draws now before after (units ++ more)
draws_no_more now before middle after units more same none h =
    subst (λ ids. Draws now before ids (units ++ more)) (sym same)
    (subst (Draws now before middle) (sym (ap (λ us. units ++ us) none ∙ append-nil units)) h)

module _ (laws : StepLaws) where
  -- what a deed draws
  abbrev DeedDraws : SystemState → Deed → Type 0
  DeedDraws s deed = Draws s.moment s.identifiers deed.after.identifiers (made_in deed.actions)

  -- what an effect draws
  abbrev EffectDraws : SystemState → Effect → Type 0
  EffectDraws s effect = Draws s.moment s.identifiers effect.after.identifiers effect.units

  one_draws : (s : SystemState) (test : Bool) (first second : Deed) → DeedDraws s first → DeedDraws s second → DeedDraws s (if test then first else second)
  one_draws s test first second h k = one_of (DeedDraws s) test first second h k

  -- Units that are asked for.

  module _ (s : SystemState) (kind : Kind) (from to octets : List ℕ) (ask : Ask) where
    -- the unit that is asked for
    abbrev asked : DataUnit
    asked = unit_of s kind from to octets ask

    unless_draws : (refused : Option Note) → refusal s asked ≡ refused → DeedDraws s (unless_refused refused s asked)
    unless_draws None none = made_draws s asked ask.segment refl ((laws.deeds.allowed s asked).0 none).identifier
    unless_draws (Some told) some = draws_nothing s.moment s.identifiers

    make_draws : DeedDraws s (make s kind from to octets ask)
    make_draws = unless_draws (refusal s asked) refl

  -- Reports have no identifier.

  discard_draws : (s : SystemState) (frame : Content) (reason place : ℕ) → DeedDraws s (discard s frame reason place)
  discard_draws s frame reason place =
      let made = made_in (discard s frame reason place).actions in
      inl (record { identifiers = (discard_is_like s frame reason place).identifiers; whole = all_whole s.moment made (discard_reports s frame reason place) })

  -- Packets for the system's own addresses.

  reply_draws : (s : SystemState) (source destination octets : List ℕ) (found : Option DataUnit) → DeedDraws s (takes_reply s source destination octets found)
  reply_draws s source destination octets None = draws_nothing s.moment s.identifiers
  reply_draws s source destination octets (Some request) = draws_nothing s.moment s.identifiers

  hand_up_draws : (s : SystemState) (kind : Kind) (source destination octets : List ℕ) (options : List Parameter)
      → DeedDraws s (hand_up s kind source destination octets options)
  hand_up_draws s Dt source destination octets options = draws_nothing s.moment s.identifiers
  hand_up_draws s Er source destination octets options = draws_nothing s.moment s.identifiers
  hand_up_draws s Erq source destination octets options =
      make_draws s Erp destination source octets (echo_ask s destination source (length octets) false)
  hand_up_draws s Erp source destination octets options =
      reply_draws s source destination octets (find (is_answer source destination octets) s.pending)

  take_in_draws : (s : SystemState) (frame : Content) (arrival : Arrival Packet) (kept : List (Buffer Packet)) (answer : Answer)
      → DeedDraws s (takes_in s frame arrival kept answer)
  take_in_draws s frame arrival kept buffer.Held = draws_nothing s.moment s.identifiers
  take_in_draws s frame arrival kept buffer.Whole =
      hand_up_draws (record s { buffers = buffer.without arrival.key kept }) arrival.carried.unit.kind arrival.key.from arrival.key.to _ arrival.carried.options
  take_in_draws s frame arrival kept (buffer.Interference there other) = discard_draws s frame (reason_code ReassemblyInterference) 0
  take_in_draws s frame arrival kept buffer.Repeat = draws_nothing s.moment s.identifiers
  take_in_draws s frame arrival kept (buffer.NoSlot live) = discard_draws s frame (reason_code Congestion) 0
  take_in_draws s frame arrival kept (buffer.Crowded held size) = discard_draws s frame (reason_code Congestion) 0
  take_in_draws s frame arrival kept (buffer.Many segments) = discard_draws s frame (reason_code Congestion) 0

  receive_draws : (s : SystemState) (p : Packet) (following : List ℕ) → DeedDraws s (receive s p following)
  receive_draws s p following =
      one_draws s (is_all p) (hand_up s p.unit.kind p.unit.source p.unit.destination (value_of p).body p.options)
      (offer s (Labelled p following) (offered p following))
      (hand_up_draws s p.unit.kind p.unit.source p.unit.destination (value_of p).body p.options)
      (take_in_draws s (Labelled p following) (offered p following) (buffer.after (table_limits s) s.moment (offered p following) s.buffers)
      (buffer.answer (table_limits s) s.moment (offered p following) s.buffers))

  -- Frames that come.

  packet_draws : (s : SystemState) (came : Neighbour) (p : Packet) (following : List ℕ) → EffectDraws s (packet_comes s came p following)
  packet_draws s came p following =
      packet_does (EffectDraws s) s came p following (λ reason of_none. discard_draws s (Labelled p following) reason 0)
      (λ router way port pieces there alive gives known. draws_nothing s.moment s.identifiers) (draws_nothing s.moment s.identifiers)
      (λ own. receive_draws s p following)

  refused_draws : (s : SystemState) (octets : List ℕ) (broken : Option OptionRefusal) → DeedDraws s (discard_refused s octets broken)
  refused_draws s octets None = discard_draws s (Unlabelled octets) (reason_code NotSpecified) 0
  refused_draws s octets (Some broken) = discard_draws s (Unlabelled octets) broken.reason broken.place

  octets_draw : (s : SystemState) (octets : List ℕ) → DeedDraws s (octets_come s octets)
  octets_draw s octets =
      one_draws s (octet octets 1 == 0x81) (discard_refused s octets (rule_broken octets)) (tells s (unheard_note (why_refused octets)))
      (refused_draws s octets (rule_broken octets)) (draws_nothing s.moment s.identifiers)

  -- what is said and heard of others
  hellos_draw : (s : SystemState) (effect : Effect) → OnlyHellos s effect → DrawsNone s.identifiers effect.after.identifiers effect.units
  hellos_draw s effect only = record { identifiers = only.rest.identifiers; whole = subst (AllByRecursion IsWhole) (sym only.units) tt }

  content_draws : (s : SystemState) (from : Neighbour) (to_group : Bool) (content : Content) → EffectDraws s (content_comes s from to_group content)
  content_draws s from to_group (Labelled p following) =
      let comes = packet_comes s from p following in
      let only = laws.hellos.answers comes.after from to_group p in
      draws_no_more s.moment s.identifiers comes.after.identifiers (responds comes.after from to_group p).after.identifiers comes.units
      (responds comes.after from to_group p).units only.rest.identifiers only.units (packet_draws s from p following)
  content_draws s from to_group (Esis value following) = inl (hellos_draw s (esis_comes s from value) (laws.hellos.comes s from value))
  content_draws s from to_group (Unlabelled octets) = octets_draw s octets

  -- Moments that come.

  found_keeps : (s : SystemState) (found : Option (Buffer Packet)) (following : SystemState → Deed)
      → ((t : SystemState) → (following t).after.identifiers ≡ t.identifiers) → (give_up_due found s following).after.identifiers ≡ s.identifiers
  found_keeps s None following same = refl
  found_keeps s (Some ended) following same = same (gives_up s ended).after ∙ ap (λ (t : SystemState). t.identifiers) (laws.deeds.ended s ended)

  expire_keeps : (most : ℕ) (s : SystemState) → (expire most s).after.identifiers ≡ s.identifiers
  expire_keeps zero s = refl
  expire_keeps (suc most) s = found_keeps s (buffer.due s.moment s.buffers) (expire most) (expire_keeps most)

  moment_draws : (s : SystemState) (now : ℕ) → Draws now s.identifiers (moment_comes s now).after.identifiers (moment_comes s now).units
  moment_draws s now =
      let ticked = tick s now in
      let forgotten = forgets s.moment ticked.after in
      let only = only_then ticked.after forgotten says_hello (laws.hellos.forgotten ticked.after s.moment) (laws.hellos.said forgotten.after) in
      let later : Effect = then_does forgotten says_hello in
      draws_no_more now s.identifiers ticked.after.identifiers later.after.identifiers (made_in ticked.actions) later.units only.rest.identifiers only.units
      (inl (record { identifiers = expire_keeps (length s.buffers) (at_moment now s); whole = all_whole now (made_in ticked.actions) (tick_reports laws s now) }))

  -- whatever comes, but a restart
  pub step_draws : (s : SystemState) (input : Input) → RestartsNothing input
      → Draws (moment_after s input) s.identifiers (step s input).after.identifiers (step s input).units
  step_draws s (AsksToSend from to octets ask) steady = make_draws s Dt from to octets ask
  step_draws s (AsksForEcho from to octets) steady = make_draws s Erq from to octets (echo_ask s from to (length octets) true)
  step_draws s (FrameComes port sender to_group content) steady = content_draws s (record { port = port; snpa = sender }) to_group content
  step_draws s (MomentComes now) steady = moment_draws s now
  step_draws s IsRestarted steady = absurd steady
  step_draws s (IsCongested on) steady = draws_nothing s.moment s.identifiers
  step_draws s (IsChanged change) steady = draws_nothing s.moment s.identifiers
