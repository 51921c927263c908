-- A system keeps only segments that it kept before, or that come in a frame.
use Rattle.clnp_plan.proofs.ClnpBase.Filters.{AllByRecursion-filter}
use Rattle.clnp_plan.proofs.ClnpBase.Lists.{AllByRecursion-append, AllByRecursion-implies, AllByRecursion-push}
use Rattle.std.proofs.Common.{refl, sym, subst, ℕ, zero, suc, inl, inr, Bool, true, false, not, List, [], ◌∷◌, ◌++◌, Option, None, Some, Contains, length}
use Rattle.std.specs.Prelude.{◌==◌, if◌then◌else◌, slice_get}
use Rattle.std.specs.List.{AllByRecursion, find}
use Rattle.clnp_plan.specs.PduHeader.Rules.{is_reportable, octet, refusal as rule_broken}
use Rattle.clnp_plan.specs.Pdus.declared.clnp_options.judge.OptionRefusal.{OptionRefusal}
use Rattle.clnp_plan.specs.ClnpOptions.Parameter.{Parameter}
use Rattle.clnp_plan.specs.Pdus.declared.pdu_header.kind.Kind.{Kind}
use Rattle.clnp_plan.specs.Pdus.declared.pdu_header.kind.Kind.TheVariants.{Dt, Er, Erq, Erp}
use Rattle.system_tables.specs.Reassembly.Arrival.{Arrival, same_key}
use Rattle.system_tables.specs.Reassembly.Buffer as buffer
use Rattle.system_tables.specs.Reassembly.Buffer.{Answer, Buffer}
use Rattle.clnp_plan.specs.SystemTables.declared.esis_tables.fact.Neighbour.{Neighbour}
use Rattle.clnp_plan.specs.declared.ask.Ask.{Ask}
use Rattle.clnp_plan.specs.declared.note.Note.{Note}
use Rattle.clnp_machine.specs.Unit.{DataUnit, Packet, value_of}
use Rattle.clnp_machine.specs.Content.{Content, Labelled, Esis, Unlabelled, frame_of}
use Rattle.clnp_machine.specs.System.{SystemState, Input, AsksToSend, AsksForEcho, FrameComes, MomentComes, IsRestarted, IsCongested, IsChanged, Effect, then_does, table_limits}
use Rattle.clnp_machine.specs.Esis.{esis_comes, forgets, says_hello}
use Rattle.clnp_machine.specs.Local.{Deed, data_in, discard, echo_ask, hand_up, is_all, is_answer, make, makes, offered, report_unit, reports_from, rests, takes_in, takes_reply, offer, refusal, unit_of, unless_refused, discard_first, gives_up, give_up_due, expire, at_moment, tick}
use Rattle.clnp_machine.specs.Step.{packet_comes, discard_refused, octets_come, responds, content_comes, step}
use Rattle.clnp_machine.specs.EveryStep.{segments_in, CarriesSegment, ComesWith, OnlyHellos, WasKeptOrComes}
use Rattle.clnp_machine.proofs.Hellos.{only_comes, only_forgets, only_responds, only_says_hello, only_then}
use Rattle.clnp_machine.proofs.Kept.{all_after, all_contained}
use Rattle.clnp_machine.proofs.Passing.{packet_does}
use Rattle.clnp_plan.proofs.ClnpBase.Choices.{one_of}

parts : {X : Type 0} (P : X → Type 0) (xs ys : List X) → AllByRecursion P (xs ++ ys) → AllByRecursion P xs × AllByRecursion P ys
parts P [] ys h = (tt, h)
parts P (x ∷ xs) ys h = let both = parts P xs ys h.1 in ((h.0, both.0), both.1)

module _ (P : Arrival Packet → Type 0) where
  -- P holds of each segment that is kept
  abbrev pub KeepsOnly : List (Buffer Packet) → Type 0
  KeepsOnly buffers = AllByRecursion (λ (b : Buffer Packet). AllByRecursion P b.kept) buffers

  keeps_without : (arrival : Arrival Packet) (buffers : List (Buffer Packet)) → KeepsOnly buffers → KeepsOnly (buffer.without arrival.key buffers)
  keeps_without arrival buffers h =
      AllByRecursion-filter (λ b. not (same_key b.key arrival.key)) (λ (b : Buffer Packet). AllByRecursion P b.kept) (λ (b : Buffer Packet). AllByRecursion P b.kept) (λ b t k. k) buffers h

  keeps_one_of : (test : Bool) (first second : Deed) → KeepsOnly first.after.buffers → KeepsOnly second.after.buffers
      → KeepsOnly (if test then first else second).after.buffers
  keeps_one_of test first second h k = one_of (λ (deed : Deed). KeepsOnly deed.after.buffers) test first second h k

  keeps_reports_from : (s : SystemState) (found : Option (List ℕ)) (frame : List ℕ) (reason place : ℕ) → KeepsOnly s.buffers
      → KeepsOnly (reports_from found s frame reason place).after.buffers
  keeps_reports_from s None frame reason place h = h
  keeps_reports_from s (Some own) frame reason place h =
      keeps_one_of (is_reportable frame) (makes s (report_unit s own frame reason place)) (rests s) h h

  -- where a frame is discarded, the buffers stay
  keeps_discard : (s : SystemState) (frame : Content) (reason place : ℕ) → KeepsOnly s.buffers → KeepsOnly (discard s frame reason place).after.buffers
  keeps_discard s frame reason place h = keeps_reports_from s (slice_get s.configuration.addresses 0) (frame_of frame) reason place h

  keeps_unless_refused : (s : SystemState) (u : DataUnit) (refused : Option Note) → KeepsOnly s.buffers → KeepsOnly (unless_refused refused s u).after.buffers
  keeps_unless_refused s u None h = h
  keeps_unless_refused s u (Some told) h = h

  keeps_make : (s : SystemState) (kind : Kind) (from to octets : List ℕ) (ask : Ask) → KeepsOnly s.buffers
      → KeepsOnly (make s kind from to octets ask).after.buffers
  keeps_make s kind from to octets ask h =
      keeps_unless_refused s (unit_of s kind from to octets ask) (refusal s (unit_of s kind from to octets ask)) h

  keeps_takes_reply : (s : SystemState) (source destination octets : List ℕ) (found : Option DataUnit) → KeepsOnly s.buffers
      → KeepsOnly (takes_reply s source destination octets found).after.buffers
  keeps_takes_reply s source destination octets None h = h
  keeps_takes_reply s source destination octets (Some request) h = h

  -- and where data are handed up
  keeps_hand_up : (s : SystemState) (kind : Kind) (source destination octets : List ℕ) (options : List Parameter) → KeepsOnly s.buffers
      → KeepsOnly (hand_up s kind source destination octets options).after.buffers
  keeps_hand_up s Dt source destination octets options h = h
  keeps_hand_up s Er source destination octets options h = h
  keeps_hand_up s Erq source destination octets options h =
      keeps_make s Erp destination source octets (echo_ask s destination source (length octets) false) h
  keeps_hand_up s Erp source destination octets options h =
      keeps_takes_reply s source destination octets (find (is_answer source destination octets) s.pending) h

  keeps_take_in : (s : SystemState) (frame : Content) (arrival : Arrival Packet) (kept : List (Buffer Packet)) (answer : Answer) → KeepsOnly s.buffers
      → KeepsOnly kept → KeepsOnly (takes_in s frame arrival kept answer).after.buffers
  keeps_take_in s frame arrival kept buffer.Held h k = k
  keeps_take_in s frame arrival kept buffer.Whole h k =
      keeps_hand_up (record s { buffers = buffer.without arrival.key kept }) arrival.carried.unit.kind arrival.key.from arrival.key.to
      (data_in (buffer.buffer_of arrival.key kept)) arrival.carried.options (keeps_without arrival kept k)
  keeps_take_in s frame arrival kept (buffer.Interference there other) h k = keeps_discard s frame _ 0 h
  keeps_take_in s frame arrival kept buffer.Repeat h k = h
  keeps_take_in s frame arrival kept (buffer.NoSlot live) h k = keeps_discard s frame _ 0 h
  keeps_take_in s frame arrival kept (buffer.Crowded held size) h k = keeps_discard s frame _ 0 h
  keeps_take_in s frame arrival kept (buffer.Many segments) h k = keeps_discard s frame _ 0 h

  keeps_offer : (s : SystemState) (frame : Content) (arrival : Arrival Packet) → KeepsOnly s.buffers → P arrival
      → KeepsOnly (offer s frame arrival).after.buffers
  keeps_offer s frame arrival h comes =
      keeps_take_in s frame arrival (buffer.after (table_limits s) s.moment arrival s.buffers) (buffer.answer (table_limits s) s.moment arrival s.buffers) h
      (all_after (table_limits s) s.moment arrival (λ (b : Buffer Packet). AllByRecursion P b.kept)
      (record { new = (comes, tt); more = λ b all same. AllByRecursion-push P b.kept arrival all comes }) s.buffers h)

  keeps_with_packet : (s : SystemState) (came : Neighbour) (p : Packet) (following : List ℕ) → KeepsOnly s.buffers → P (offered p following)
      → KeepsOnly (packet_comes s came p following).after.buffers
  keeps_with_packet s came p following h comes =
      packet_does (λ effect. KeepsOnly effect.after.buffers) s came p following (λ reason of_none. keeps_discard s (Labelled p following) reason 0 h)
      (λ router way port pieces there alive gives known. h) h
      (λ own. keeps_one_of (is_all p) (hand_up s p.unit.kind p.unit.source p.unit.destination (value_of p).body p.options)
      (offer s (Labelled p following) (offered p following)) (keeps_hand_up s p.unit.kind p.unit.source p.unit.destination (value_of p).body p.options h)
      (keeps_offer s (Labelled p following) (offered p following) h comes))

  keeps_discard_refused : (s : SystemState) (octets : List ℕ) (broken : Option OptionRefusal) → KeepsOnly s.buffers
      → KeepsOnly (discard_refused s octets broken).after.buffers
  keeps_discard_refused s octets None h = keeps_discard s (Unlabelled octets) _ 0 h
  keeps_discard_refused s octets (Some broken) h = keeps_discard s (Unlabelled octets) broken.reason broken.place h

  keeps_with_octets : (s : SystemState) (octets : List ℕ) → KeepsOnly s.buffers → KeepsOnly (octets_come s octets).after.buffers
  keeps_with_octets s octets h =
      keeps_one_of (octet octets 1 == 0x81) (discard_refused s octets (rule_broken octets)) _ (keeps_discard_refused s octets (rule_broken octets) h) h

  -- what is said and heard between systems leaves the buffers
  keeps_by_hellos : (s : SystemState) (effect : Effect) → OnlyHellos s effect → KeepsOnly s.buffers → KeepsOnly effect.after.buffers
  keeps_by_hellos s effect only h = subst KeepsOnly (sym only.rest.buffers) h

  keeps_with_content : (s : SystemState) (neighbour : Neighbour) (to_group : Bool) (content : Content) → KeepsOnly s.buffers
      → ((arrival : Arrival Packet) → CarriesSegment content arrival → P arrival) → KeepsOnly (content_comes s neighbour to_group content).after.buffers
  keeps_with_content s neighbour to_group (Labelled p following) h comes =
      let come = (packet_comes s neighbour p following).after in
      keeps_by_hellos come (responds come neighbour to_group p) (only_responds come neighbour to_group p)
      (keeps_with_packet s neighbour p following h (comes (offered p following) refl))
  keeps_with_content s neighbour to_group (Esis value following) h comes = keeps_by_hellos s (esis_comes s neighbour value) (only_comes s neighbour value) h
  keeps_with_content s neighbour to_group (Unlabelled octets) h comes = keeps_with_octets s octets h

  keeps_discard_first : (s : SystemState) (first : Option Packet) → KeepsOnly s.buffers → KeepsOnly (discard_first s first).after.buffers
  keeps_discard_first s None h = h
  keeps_discard_first s (Some p) h = keeps_discard s (Labelled p []) _ 0 h

  pub keeps_give_up : (s : SystemState) (ended : Buffer Packet) → KeepsOnly s.buffers → KeepsOnly (gives_up s ended).after.buffers
  keeps_give_up s ended h =
      keeps_discard_first (record s { buffers = buffer.without ended.key s.buffers }) (buffer.first_carried ended)
      (AllByRecursion-filter (λ b. not (same_key b.key ended.key)) (λ (b : Buffer Packet). AllByRecursion P b.kept) (λ (b : Buffer Packet). AllByRecursion P b.kept) (λ b t k. k) s.buffers h)

  keeps_give_up_due : (s : SystemState) (found : Option (Buffer Packet)) (next : SystemState → Deed) → KeepsOnly s.buffers
      → ((t : SystemState) → KeepsOnly t.buffers → KeepsOnly (next t).after.buffers) → KeepsOnly (give_up_due found s next).after.buffers
  keeps_give_up_due s None next h k = h
  keeps_give_up_due s (Some ended) next h k = k (gives_up s ended).after (keeps_give_up s ended h)

  keeps_expire : (most : ℕ) (s : SystemState) → KeepsOnly s.buffers → KeepsOnly (expire most s).after.buffers
  keeps_expire zero s h = h
  keeps_expire (suc most) s h = keeps_give_up_due s (buffer.due s.moment s.buffers) (expire most) h (keeps_expire most)

  pub keeps_step : (s : SystemState) (input : Input) → KeepsOnly s.buffers → ((arrival : Arrival Packet) → ComesWith input arrival → P arrival)
      → KeepsOnly (step s input).after.buffers
  keeps_step s (AsksToSend from to octets ask) h comes = keeps_make s Dt from to octets ask h
  keeps_step s (AsksForEcho from to octets) h comes = keeps_make s Erq from to octets (echo_ask s from to (length octets) true) h
  keeps_step s (FrameComes port sender to_group content) h comes = keeps_with_content s (record { port = port; snpa = sender }) to_group content h comes
  keeps_step s (MomentComes now) h comes =
      let ticked = (tick s now).after in
      keeps_by_hellos ticked (then_does (forgets s.moment ticked) says_hello)
      (only_then ticked (forgets s.moment ticked) says_hello (only_forgets s.moment ticked) (only_says_hello ticked))
      (keeps_expire (length s.buffers) (at_moment now s) h)
  keeps_step s IsRestarted h comes = tt
  keeps_step s (IsCongested on) h comes = h
  keeps_step s (IsChanged change) h comes = h

  -- what holds of all segments holds of those of each buffer

  pub each_kept : (buffers : List (Buffer Packet)) → AllByRecursion P (segments_in buffers) → KeepsOnly buffers
  each_kept [] h = tt
  each_kept (b ∷ buffers) h = let both = parts P b.kept (segments_in buffers) h in (both.0, each_kept buffers both.1)

  pub all_segments : (buffers : List (Buffer Packet)) → KeepsOnly buffers → AllByRecursion P (segments_in buffers)
  all_segments [] h = tt
  all_segments (b ∷ buffers) h = AllByRecursion-append P b.kept (segments_in buffers) h.0 (all_segments buffers h.1)

pub gains_only : (s : SystemState) (input : Input) → AllByRecursion (WasKeptOrComes s input) (segments_in (step s input).after.buffers)
gains_only s input =
    let P : Arrival Packet → Type 0 = WasKeptOrComes s input in
    all_segments P (step s input).after.buffers
    (keeps_step P s input
    (each_kept P s.buffers
    (AllByRecursion-implies (Contains (segments_in s.buffers)) P (λ arrival there. inl there) (segments_in s.buffers) (all_contained (segments_in s.buffers))))
    (λ arrival comes. inr comes))
