-- What each deed of a system leaves: the same system at the same moment, within its budget, and the units that it makes.
use Rattle.clnp_plan.proofs.ClnpBase.Lists.{AllByRecursion-find, AllByRecursion-implies, AllByRecursion-map}
use Rattle.clnp_plan.proofs.ClnpBase.Sums.{sum_filter}
use Rattle.std.proofs.Common.{◌≡◌, ◌∙◌, ap, refl, sym, subst, ℕ, zero, suc, ◌≤◌, Bool, true, false, not, List, [], ◌∷◌, ◌++◌, length, map, Option, None, Some, option_map, Contains, arith}
use Rattle.std.specs.Prelude.{◌==◌, ◌||◌, if◌then◌else◌, slice_get}
use Rattle.std.specs.List.{AllByRecursion, find, list_any}
use Rattle.std.specs.Str.{bytes_eq}
use Rattle.clnp_plan.specs.ClnpOptions.Parameter.{Parameter}
use Rattle.clnp_plan.specs.ClnpOptions.Reasons.{reason_code}
use Rattle.clnp_plan.specs.Pdus.declared.clnp_options.judge.OptionRefusal.{OptionRefusal}
use Rattle.clnp_plan.specs.Pdus.declared.clnp_options.reasons.Reason.TheVariants.{LifetimeExpiredInReassembly, NotSpecified}
use Rattle.clnp_plan.specs.Pdus.declared.pdu_header.kind.Kind.{Kind}
use Rattle.clnp_plan.specs.Pdus.declared.pdu_header.kind.Kind.TheVariants.{Dt, Er, Erq, Erp}
use Rattle.clnp_plan.specs.PduHeader.Rules.{header_of, is_reportable, octet, refusal as rule_broken}
use Rattle.pdus.specs.MadePdus.Report.{reason_option, source_of}
use Rattle.system_tables.specs.Reassembly.Arrival.{Arrival, same_key}
use Rattle.system_tables.specs.Reassembly.Buffer as buffer
use Rattle.system_tables.specs.Reassembly.Buffer.{Answer, Buffer, held, size_of}
use Rattle.pdus.specs.EsisPdus.Rules.{why_refused}
use Rattle.clnp_plan.specs.SystemTables.declared.esis_tables.fact.Neighbour.{Neighbour}
use Rattle.clnp_plan.proofs.ClnpBase.SameOctets.{same-itself}
use Rattle.clnp_plan.specs.Configuration.{SystemConfiguration}
use Rattle.clnp_plan.specs.declared.ask.Ask.{Ask}
use Rattle.clnp_plan.specs.declared.note.Note.{Note}
use Rattle.clnp_plan.specs.declared.note.Note.TheVariants as note
use Rattle.clnp_machine.specs.Change.{Change}
use Rattle.clnp_machine.specs.Identifiers.{Identifiers}
use Rattle.clnp_machine.specs.Unit.{DataUnit, DeclaredAt, Packet, value_of, wire}
use Rattle.clnp_machine.specs.Content.{Content, Labelled, Esis, Unlabelled, frame_of}
use Rattle.clnp_machine.specs.System.{SystemState, Input, AsksToSend, AsksForEcho, FrameComes, MomentComes, IsRestarted, IsCongested, IsChanged, Effect, idles, next_number, then_does, table_limits}
use Rattle.clnp_machine.specs.Local.{Action, Sends, Tells, Deed, and_then, at_moment, data_in, discard, discard_first, echo_ask, expire, give_up_due, gives_up, hand_up, has_address, is_all, is_answer, made_in, make, makes, offer, offered, receive, refusal, report_unit, reports, reports_from, restarted, rests, takes_in, takes_reply, tells, tick, unit_of, unless_refused, with_use}
use Rattle.clnp_machine.specs.Esis.{esis_comes, forgets, says_hello}
use Rattle.clnp_machine.specs.Step.{packet_comes, discard_refused, octets_come, effect_of, responds, content_comes, moment_comes, restart, congest, as_changed, step, unheard_note}
use Rattle.clnp_machine.specs.EveryStep.{AreNumbered, IsDeed, IsEffect, StaysItself, HearsNothing, LeavesTheRest, OnlyHellos, WasPendingOrMade, attached_after, moment_after, segments_in, IsFresh, IsWithinBudget}
use Rattle.clnp_machine.specs.Told.{IsOfNoRule}
use Rattle.clnp_machine.proofs.Gained.{KeepsOnly, each_kept, keeps_give_up}
use Rattle.clnp_machine.proofs.Hellos.{only_comes, only_forgets, only_responds, only_says_hello, only_then}
use Rattle.clnp_machine.proofs.Kept.{all_contained, due_of, held_after}
use Rattle.clnp_machine.proofs.Makes.{Makes, are_numbered, makes_answered, makes_both, makes_forgotten, makes_none, makes_one}
use Rattle.clnp_machine.proofs.Making.{allowed, total_is, total_with}
use Rattle.clnp_machine.proofs.Passing.{packet_does}
use Rattle.clnp_machine.proofs.Reasons.{congestion, interference}

-- the same system, at the same moment, attached as it was, within its budget where it was
pub record Goes (s t : SystemState) : Type 0 where
  pub itself : StaysItself s t
  pub moment : t.moment ≡ s.moment
  pub attached : t.attached ≡ s.attached
  pub budget : IsWithinBudget s → IsWithinBudget t

pub goes-nowhere : (s : SystemState) → Goes s s
goes-nowhere s = record { itself = record { place = refl; configuration = refl; hold = refl; reuse = refl }; moment = refl; attached = refl; budget = λ h. h }

pub goes-on : (s t u : SystemState) → Goes s t → Goes t u → Goes s u
goes-on s t u h k = record {
  itself = record {
    place = k.itself.place ∙ h.itself.place;
    configuration = k.itself.configuration ∙ h.itself.configuration;
    hold = k.itself.hold ∙ h.itself.hold;
    reuse = k.itself.reuse ∙ h.itself.reuse;
  };
  moment = k.moment ∙ h.moment;
  attached = k.attached ∙ h.attached;
  budget = λ within. k.budget (h.budget within);
}

-- it hears nothing
pub hears-nothing : (s : SystemState) → HearsNothing s s
hears-nothing s = record { facts = refl; hello = refl; next_hello = refl; congested = refl; attached = refl }

hears-on : (s t u : SystemState) → HearsNothing s t → HearsNothing t u → HearsNothing s u
hears-on s t u h k = record {
  facts = k.facts ∙ h.facts;
  hello = k.hello ∙ h.hello;
  next_hello = k.next_hello ∙ h.next_hello;
  congested = k.congested ∙ h.congested;
  attached = k.attached ∙ h.attached;
}

-- what a deed leaves, and the units that it makes, where W says of each what it is
pub record Does (W : DataUnit → Type 0) (s : SystemState) (deed : Deed) : Type 0 where
  pub goes : Goes s deed.after
  pub heard : HearsNothing s deed.after
  pub makes : Makes W s deed.after (made_in deed.actions)

made_in-append : (xs ys : List Action) → made_in (xs ++ ys) ≡ made_in xs ++ made_in ys
made_in-append [] ys = refl
made_in-append (Tells told ∷ xs) ys = made_in-append xs ys
made_in-append (Sends u ∷ xs) ys = ap (λ us. u ∷ us) (made_in-append xs ys)

pub reuse_kept : (s : SystemState) (identifier : Option ℕ) → (with_use s identifier).reuse ≡ s.identifiers.reuse
reuse_kept s None = refl
reuse_kept s (Some identifier) = refl

with_buffers : (s : SystemState) (buffers : List (Buffer Packet)) → (IsWithinBudget s → held buffers ≤ s.configuration.settings.budget)
    → Goes s (record s { buffers = buffers })
with_buffers s buffers within = record { itself = record { place = refl; configuration = refl; hold = refl; reuse = refl }; moment = refl; attached = refl; budget = within }

-- the reply that a system makes to a request
abbrev pub reply_unit : SystemState → (source destination octets : List ℕ) → DataUnit
reply_unit s source destination octets = unit_of s Erp destination source octets (echo_ask s destination source (length octets) false)

module _ (W : DataUnit → Type 0) where
  does_rest : (s : SystemState) → Does W s (rests s)
  does_rest s = record { goes = goes-nowhere s; heard = hears-nothing s; makes = makes_none W s s refl refl }

  -- only something is noted
  does_tell : (s : SystemState) (told : Note) → Does W s (tells s told)
  does_tell s told = record { goes = goes-nowhere s; heard = hears-nothing s; makes = makes_none W s s refl refl }

  -- what comes first makes no unit
  does_from : (s t : SystemState) (deed : Deed) → Goes s t → HearsNothing s t → t.count ≡ s.count → t.pending ≡ s.pending → Does W t deed → Does W s deed
  does_from s t deed goes heard count pending h = record {
    goes = goes-on s t deed.after goes h.goes;
    heard = hears-on s t deed.after heard h.heard;
    makes = makes_both W s t deed.after [] (made_in deed.actions) (makes_none W s t count pending) h.makes;
  }

  does_both : (s : SystemState) (first : Deed) (next : SystemState → Deed) → Does W s first → Does W first.after (next first.after)
      → Does W s (and_then first next)
  does_both s first next h k =
      let second = next first.after in
      record {
        goes = goes-on s first.after second.after h.goes k.goes;
        heard = hears-on s first.after second.after h.heard k.heard;
        makes = subst (Makes W s second.after) (sym (made_in-append first.actions second.actions))
            (makes_both W s first.after second.after (made_in first.actions) (made_in second.actions) h.makes k.makes);
      }

  -- something is noted, and then comes a deed
  does_tell_and : (s : SystemState) (told : Note) (next : SystemState → Deed) → Does W s (next s) → Does W s (and_then (tells s told) next)
  does_tell_and s told next h = does_both s (tells s told) next (does_tell s told) h

  does_one_of : (s : SystemState) (test : Bool) (first second : Deed) → (test ≡ true → Does W s first) → Does W s second
      → Does W s (if test then first else second)
  does_one_of s true first second h k = h refl
  does_one_of s false first second h k = k

  -- Units that are made.

  does_make_unit : (s : SystemState) (u : DataUnit) → u.number ≡ next_number s → W u → Does W s (makes s u)
  does_make_unit s u number is = record {
    goes = record { itself = record { place = refl; configuration = refl; hold = refl; reuse = reuse_kept s u.identifier }; moment = refl; attached = refl; budget = λ h. h };
    heard = record { facts = refl; hello = refl; next_hello = refl; congested = refl; attached = refl };
    makes = makes_one W s u number is;
  }

  does_unless_refused : (s : SystemState) (u : DataUnit) (refused : Option Note) → u.number ≡ next_number s → (refused ≡ None → W u)
      → Does W s (unless_refused refused s u)
  does_unless_refused s u None number is = does_make_unit s u number (is refl)
  does_unless_refused s u (Some told) number is = does_tell s told

  pub does_make : (s : SystemState) (kind : Kind) (from to octets : List ℕ) (ask : Ask)
      → (refusal s (unit_of s kind from to octets ask) ≡ None → W (unit_of s kind from to octets ask)) → Does W s (make s kind from to octets ask)
  does_make s kind from to octets ask is =
      does_unless_refused s (unit_of s kind from to octets ask) (refusal s (unit_of s kind from to octets ask)) refl is

  -- What a system that began in a state makes unasked.

  module _ (o : SystemState) where
    -- the report of a frame's discard is such as W says
    abbrev pub Reported : (frame : List ℕ) → (reason place : ℕ) → Type 0
    Reported frame reason place =
        (t : SystemState) → Goes o t → (own : List ℕ) → slice_get t.configuration.addresses 0 ≡ Some own → is_reportable frame ≡ true
        → W (report_unit t own frame reason place)

    -- so is the reply to a request
    abbrev pub Replied : (source destination octets : List ℕ) → Type 0
    Replied source destination octets =
        (t : SystemState) → Goes o t → refusal t (reply_unit t source destination octets) ≡ None → W (reply_unit t source destination octets)

    does_report_from : (t : SystemState) → Goes o t → (frame : List ℕ) (reason place : ℕ) → Reported frame reason place → (found : Option (List ℕ))
        → slice_get t.configuration.addresses 0 ≡ found → Does W t (reports_from found t frame reason place)
    does_report_from t at frame reason place such None e = does_rest t
    does_report_from t at frame reason place such (Some own) e =
        does_one_of t (is_reportable frame) (makes t (report_unit t own frame reason place)) (rests t)
        (λ reportable. does_make_unit t (report_unit t own frame reason place) refl (such t at own e reportable)) (does_rest t)

    pub does_discard : (t : SystemState) → Goes o t → (frame : Content) (reason place : ℕ) → Reported (frame_of frame) reason place
        → Does W t (discard t frame reason place)
    does_discard t at frame reason place such =
        does_tell_and t (note.Discard reason place) (λ v. reports v (frame_of frame) reason place)
        (does_report_from t at (frame_of frame) reason place such (slice_get t.configuration.addresses 0) refl)

    does_take_reply : (t : SystemState) (source destination octets : List ℕ) (found : Option DataUnit) → Does W t (takes_reply t source destination octets found)
    does_take_reply t source destination octets None = does_tell t _
    does_take_reply t source destination octets (Some request) = record {
      goes = record { itself = record { place = refl; configuration = refl; hold = refl; reuse = refl }; moment = refl; attached = refl; budget = λ h. h };
      heard = record { facts = refl; hello = refl; next_hello = refl; congested = refl; attached = refl };
      makes = makes_answered W t (is_answer source destination octets);
    }

    does_hand_up : (t : SystemState) → Goes o t → (kind : Kind) (source destination octets : List ℕ) (options : List Parameter)
        → (kind ≡ Erq → Replied source destination octets) → Does W t (hand_up t kind source destination octets options)
    does_hand_up t at Dt source destination octets options such = does_tell t _
    does_hand_up t at Er source destination octets options such = does_tell t _
    does_hand_up t at Erq source destination octets options such =
        does_make t Erp destination source octets (echo_ask t destination source (length octets) false) (λ none. such refl t at none)
    does_hand_up t at Erp source destination octets options such =
        does_take_reply t source destination octets (find (is_answer source destination octets) t.pending)

    -- what a packet that came causes is such: the reports of its discard, and the replies to it
    pub record CausesSuch (p : Packet) (following : List ℕ) : Type 0 where
      pub reported : (reason : ℕ) → IsOfNoRule reason → Reported (wire p ++ following) reason 0
      pub replied : (octets : List ℕ) → p.unit.kind ≡ Erq → Replied p.unit.source p.unit.destination octets

    -- Packets that come.

    module _ (p : Packet) (following : List ℕ) (such : CausesSuch p following) where
      does_drop : (t : SystemState) → Goes o t → (told : Note) (reason : ℕ) → IsOfNoRule reason
          → Does W t (and_then (tells t told) (λ v. discard v (Labelled p following) reason 0))
      does_drop t at told reason of_none =
          does_tell_and t told (λ v. discard v (Labelled p following) reason 0)
          (does_discard t at (Labelled p following) reason 0 (such.reported reason of_none))

      does_take_in : (t : SystemState) → Goes o t → (kept : List (Buffer Packet)) (answer : Answer)
          → (IsWithinBudget t → held kept ≤ t.configuration.settings.budget) → Does W t (takes_in t (Labelled p following) (offered p following) kept answer)
      does_take_in t at kept buffer.Held within =
          does_from t (record t { buffers = kept }) (tells (record t { buffers = kept }) _) (with_buffers t kept within)
          (record { facts = refl; hello = refl; next_hello = refl; congested = refl; attached = refl }) refl refl (does_tell (record t { buffers = kept }) _)
      does_take_in t at kept buffer.Whole within =
          let arrival = offered p following in
          let rest : List (Buffer Packet) = buffer.without arrival.key kept in
          let v : SystemState = record t { buffers = rest } in
          let octets = data_in (buffer.buffer_of arrival.key kept) in
          let goes : Goes t v = with_buffers t rest
          (λ h.
          let less = sum_filter size_of (λ (b : Buffer Packet). not (same_key b.key arrival.key)) kept in
          let most = within h in
          omega arith) in
          does_from t v (hand_up v p.unit.kind p.unit.source p.unit.destination octets p.options) goes
          (record { facts = refl; hello = refl; next_hello = refl; congested = refl; attached = refl }) refl refl
          (does_hand_up v (goes-on o t v at goes) p.unit.kind p.unit.source p.unit.destination octets p.options (such.replied octets))
      does_take_in t at kept (buffer.Interference there other) within = does_drop t at _ _ interference
      does_take_in t at kept buffer.Repeat within = does_tell t _
      does_take_in t at kept (buffer.NoSlot live) within = does_drop t at _ _ congestion
      does_take_in t at kept (buffer.Crowded held size) within = does_drop t at _ _ congestion
      does_take_in t at kept (buffer.Many segments) within = does_drop t at _ _ congestion

      does_offer : (t : SystemState) → Goes o t → Does W t (offer t (Labelled p following) (offered p following))
      does_offer t at =
          does_take_in t at (buffer.after (table_limits t) t.moment (offered p following) t.buffers)
          (buffer.answer (table_limits t) t.moment (offered p following) t.buffers) (held_after (table_limits t) t.moment (offered p following) t.buffers)

      pub does_receive : (t : SystemState) → Goes o t → Does W t (receive t p following)
      does_receive t at =
          does_one_of t (is_all p) (hand_up t p.unit.kind p.unit.source p.unit.destination (value_of p).body p.options)
          (offer t (Labelled p following) (offered p following))
          (λ all. does_hand_up t at p.unit.kind p.unit.source p.unit.destination (value_of p).body p.options (such.replied (value_of p).body)) (does_offer t at)

    -- Octets that come.

    does_discard_refused : (t : SystemState) → Goes o t → (octets : List ℕ) → ((reason place : ℕ) → Reported octets reason place)
        → (broken : Option OptionRefusal) → Does W t (discard_refused t octets broken)
    does_discard_refused t at octets such None = does_discard t at (Unlabelled octets) (reason_code NotSpecified) 0 (such (reason_code NotSpecified) 0)
    does_discard_refused t at octets such (Some broken) =
        does_discard t at (Unlabelled octets) broken.reason broken.place (such broken.reason broken.place)

    pub does_with_octets : (t : SystemState) → Goes o t → (octets : List ℕ) → ((reason place : ℕ) → Reported octets reason place)
        → Does W t (octets_come t octets)
    does_with_octets t at octets such =
        does_one_of t (octet octets 1 == 0x81) (discard_refused t octets (rule_broken octets)) (tells t (unheard_note (why_refused octets)))
        (λ begun. does_discard_refused t at octets such (rule_broken octets)) (does_tell t _)

    -- Moments that come.

    -- of each segment that is kept, the report of its discard is such
    abbrev pub ReportsSuch : Packet → Type 0
    ReportsSuch p = Reported (wire p ++ []) (reason_code LifetimeExpiredInReassembly) 0

    abbrev pub KeepsSuch : SystemState → Type 0
    KeepsSuch t = KeepsOnly (λ (arrival : Arrival Packet). ReportsSuch arrival.carried) t.buffers

    does_discard_first : (t : SystemState) → Goes o t → (kept : List (Arrival Packet)) → AllByRecursion (λ arrival. ReportsSuch arrival.carried) kept
        → Does W t (discard_first t (option_map (λ (arrival : Arrival Packet). arrival.carried) (find (λ (arrival : Arrival Packet). arrival.offset == 0) kept)))
    does_discard_first t at kept each = go (find (λ (arrival : Arrival Packet). arrival.offset == 0) kept) refl
      where
        go : (found : Option (Arrival Packet)) → find (λ (arrival : Arrival Packet). arrival.offset == 0) kept ≡ found
            → Does W t (discard_first t (option_map (λ (arrival : Arrival Packet). arrival.carried) found))
        go None e = does_rest t
        go (Some arrival) e =
            does_discard t at (Labelled arrival.carried []) (reason_code LifetimeExpiredInReassembly) 0
            (AllByRecursion-find (λ arrival. ReportsSuch arrival.carried) (λ arrival. arrival.offset == 0) kept arrival e each)

    does_give_up : (t : SystemState) → Goes o t → (ended : Buffer Packet) → AllByRecursion (λ arrival. ReportsSuch arrival.carried) ended.kept
        → Does W t (gives_up t ended)
    does_give_up t at ended each =
        let rest : List (Buffer Packet) = buffer.without ended.key t.buffers in
        let v : SystemState = record t { buffers = rest } in
        let goes : Goes t v = with_buffers t rest
        (λ h.
        let less = sum_filter size_of (λ (b : Buffer Packet). not (same_key b.key ended.key)) t.buffers in
        omega arith) in
        does_from t v (gives_up t ended) goes (record { facts = refl; hello = refl; next_hello = refl; congested = refl; attached = refl }) refl refl
        (does_tell_and v (note.Expired ended.key.id (held rest)) (λ x. discard_first x (buffer.first_carried ended))
        (does_discard_first v (goes-on o t v at goes) ended.kept each))

    does_give_up_due : (t : SystemState) → Goes o t → (found : Option (Buffer Packet)) (next : SystemState → Deed) → KeepsSuch t
        → ((ended : Buffer Packet) → found ≡ Some ended → AllByRecursion (λ arrival. ReportsSuch arrival.carried) ended.kept)
        → ((v : SystemState) → Goes o v → KeepsSuch v → Does W v (next v)) → Does W t (give_up_due found t next)
    does_give_up_due t at None next keeps each h = does_rest t
    does_give_up_due t at (Some ended) next keeps each h =
        let first = does_give_up t at ended (each ended refl) in
        does_both t (gives_up t ended) next first
        (h (gives_up t ended).after (goes-on o t (gives_up t ended).after at first.goes)
        (keeps_give_up (λ (arrival : Arrival Packet). ReportsSuch arrival.carried) t ended keeps))

    pub does_expire : (most : ℕ) (t : SystemState) → Goes o t → KeepsSuch t → Does W t (expire most t)
    does_expire zero t at keeps = does_rest t
    does_expire (suc most) t at keeps =
        does_give_up_due t at (buffer.due t.moment t.buffers) (expire most) keeps
        (λ ended e. due_of (λ (b : Buffer Packet). AllByRecursion (λ (arrival : Arrival Packet). ReportsSuch arrival.carried) b.kept) t.moment t.buffers ended e keeps)
        (does_expire most)

-- What that says of a step.

-- what an effect leaves, and the units that are made
pub record Leads (W : DataUnit → Type 0) (s : SystemState) (effect : Effect) : Type 0 where
  pub goes : Goes s effect.after
  pub makes : Makes W s effect.after effect.units

-- what comes of a packet
pub record Takes (W : DataUnit → Type 0) (s : SystemState) (effect : Effect) : Type 0 where
  pub leads : Leads W s effect
  pub heard : HearsNothing s effect.after

within_budget : (s t : SystemState) → LeavesTheRest s t → IsWithinBudget s → IsWithinBudget t
within_budget s t rest within = rw (rest.buffers, rest.configuration) within

-- the state in which a step is taken: a moment that comes has come, and a change has come about
abbrev pub begun : SystemState → Input → SystemState
begun s input = record s { moment = moment_after s input; attached = attached_after s input }

-- the packets of which segments are kept
abbrev pub carried_in : List (Buffer Packet) → List Packet
carried_in buffers = map (λ (arrival : Arrival Packet). arrival.carried) (segments_in buffers)

module _ (W : DataUnit → Type 0) where
  -- the effect of a deed
  by_deed : (s : SystemState) (deed : Deed) → Does W s deed → Leads W s (effect_of deed)
  by_deed s deed h = record { goes = h.goes; makes = h.makes }

  taken : (s : SystemState) (deed : Deed) → Does W s deed → Takes W s (effect_of deed)
  taken s deed h = record { leads = by_deed s deed h; heard = h.heard }

  pub takes_packet : (s : SystemState) (came : Neighbour) (p : Packet) (following : List ℕ) → CausesSuch W s p following
      → Takes W s (packet_comes s came p following)
  takes_packet s came p following such =
      packet_does (Takes W s) s came p following
      (λ reason of_none. taken s (discard s (Labelled p following) reason 0)
      (does_discard W s s (goes-nowhere s) (Labelled p following) reason 0 (such.reported reason of_none)))
      (λ router way port pieces there alive gives known.
      record { leads = record { goes = goes-nowhere s; makes = makes_none W s s refl refl }; heard = hears-nothing s })
      (taken s (tells s _) (does_tell W s _)) (λ own. taken s (receive s p following) (does_receive W s p following such s (goes-nowhere s)))

  -- what is said and heard between systems
  by_hellos : (s : SystemState) (effect : Effect) → OnlyHellos s effect → Leads W s effect
  by_hellos s effect h = record {
    goes = record {
      itself = record {
        place = h.rest.place;
        configuration = h.rest.configuration;
        hold = h.rest.hold;
        reuse = ap (λ (ids : Identifiers). ids.reuse) h.rest.identifiers;
      };
      moment = h.rest.moment;
      attached = h.rest.attached;
      budget = within_budget s effect.after h.rest;
    };
    makes = subst (Makes W s effect.after) (sym h.units) (makes_none W s effect.after h.rest.count h.rest.pending);
  }

  leads-on : (s : SystemState) (effect : Effect) (next : SystemState → Effect) → Leads W s effect → Leads W effect.after (next effect.after)
      → Leads W s (then_does effect next)
  leads-on s effect next h k = record {
    goes = goes-on s effect.after (next effect.after).after h.goes k.goes;
    makes = makes_both W s effect.after (next effect.after).after effect.units (next effect.after).units h.makes k.makes;
  }

  -- each unit that may be made where something comes is such
  abbrev pub AllSuch : SystemState → Input → Type 0
  AllSuch s (AsksToSend from to octets ask) = refusal s (unit_of s Dt from to octets ask) ≡ None → W (unit_of s Dt from to octets ask)
  AllSuch s (AsksForEcho from to octets) =
      let u = unit_of s Erq from to octets (echo_ask s from to (length octets) true) in refusal s u ≡ None → W u
  AllSuch s (FrameComes port sender to_group (Labelled p following)) = CausesSuch W s p following
  AllSuch s (FrameComes port sender to_group (Esis value following)) = Unit {0}
  AllSuch s (FrameComes port sender to_group (Unlabelled octets)) = (reason place : ℕ) → Reported W s octets reason place
  AllSuch s (MomentComes now) = (p : Packet) → Contains (carried_in s.buffers) p → ReportsSuch W (at_moment now s) p
  AllSuch s IsRestarted = Unit {0}
  AllSuch s (IsCongested on) = Unit {0}
  AllSuch s (IsChanged change) = Unit {0}

  leads_content : (s : SystemState) (port : ℕ) (sender : List ℕ) (to_group : Bool) (content : Content)
      → AllSuch s (FrameComes port sender to_group content) → Leads W s (content_comes s (record { port = port; snpa = sender }) to_group content)
  leads_content s port sender to_group (Labelled p following) such =
      let neighbour : Neighbour = record { port = port; snpa = sender } in
      let come = packet_comes s neighbour p following in
      leads-on s come (λ t. responds t neighbour to_group p) (takes_packet s neighbour p following such).leads
      (by_hellos come.after (responds come.after neighbour to_group p) (only_responds come.after neighbour to_group p))
  leads_content s port sender to_group (Esis value following) such =
      let neighbour : Neighbour = record { port = port; snpa = sender } in by_hellos s (esis_comes s neighbour value) (only_comes s neighbour value)
  leads_content s port sender to_group (Unlabelled octets) such =
      by_deed s (octets_come s octets) (does_with_octets W s s (goes-nowhere s) octets such)

  pub does_tick : (s : SystemState) (now : ℕ) → AllSuch s (MomentComes now) → Does W (at_moment now s) (tick s now)
  does_tick s now such =
      let t : SystemState = at_moment now s in
      does_expire W t (length s.buffers) t (goes-nowhere t)
      (each_kept (λ (arrival : Arrival Packet). ReportsSuch W t arrival.carried) s.buffers
      (AllByRecursion-map (ReportsSuch W t) (λ (arrival : Arrival Packet). arrival.carried) (segments_in s.buffers)
      (AllByRecursion-implies (Contains (carried_in s.buffers)) (ReportsSuch W t) such (carried_in s.buffers) (all_contained (carried_in s.buffers)))))

  leads_moment : (s : SystemState) (now : ℕ) → AllSuch s (MomentComes now) → Leads W (at_moment now s) (moment_comes s now)
  leads_moment s now such =
      let ticked = (tick s now).after in
      leads-on (at_moment now s) (effect_of (tick s now)) (λ t. then_does (forgets s.moment t) says_hello)
      (by_deed (at_moment now s) (tick s now) (does_tick s now such))
      (by_hellos ticked (then_does (forgets s.moment ticked) says_hello)
      (only_then ticked (forgets s.moment ticked) says_hello (only_forgets s.moment ticked) (only_says_hello ticked)))

  leads_restarted : (s : SystemState) → Leads W s (effect_of (restart s))
  leads_restarted s = record {
    goes = record { itself = record { place = refl; configuration = refl; hold = refl; reuse = refl }; moment = refl; attached = refl; budget = λ h. omega arith };
    makes = makes_forgotten W s (restarted s) refl refl;
  }

  leads_congested : (s : SystemState) (on : Bool) → Leads W s (effect_of (congest s on))
  leads_congested s on = record {
    goes = record { itself = record { place = refl; configuration = refl; hold = refl; reuse = refl }; moment = refl; attached = refl; budget = λ h. h };
    makes = makes_none W s (record s { congested = on }) refl refl;
  }

  leads_changed : (s : SystemState) (change : Change) → Leads W (begun s (IsChanged change)) (idles (as_changed change s))
  leads_changed s change =
      let t : SystemState = begun s (IsChanged change) in
      record {
        goes = record { itself = record { place = refl; configuration = refl; hold = refl; reuse = refl }; moment = refl; attached = refl; budget = λ h. h };
        makes = makes_none W t (as_changed change s) refl refl;
      }

  pub leads_step : (s : SystemState) (input : Input) → AllSuch s input → Leads W (begun s input) (step s input)
  leads_step s (AsksToSend from to octets ask) such = by_deed s (make s Dt from to octets ask) (does_make W s Dt from to octets ask such)
  leads_step s (AsksForEcho from to octets) such =
      let ask = echo_ask s from to (length octets) true in by_deed s (make s Erq from to octets ask) (does_make W s Erq from to octets ask such)
  leads_step s (FrameComes port sender to_group content) such = leads_content s port sender to_group content such
  leads_step s (MomentComes now) such = leads_moment s now such
  leads_step s IsRestarted such = leads_restarted s
  leads_step s (IsCongested on) such = leads_congested s on
  leads_step s (IsChanged change) such = leads_changed s change

-- Each unit that is made is made now by the system, of a source that is its own.

pub own_title : (c : SystemConfiguration) (own : List ℕ) → slice_get c.addresses 0 ≡ Some own → has_address c own ≡ true
own_title c own first = go c.addresses first
  where
    go : (addresses : List (List ℕ)) → slice_get addresses 0 ≡ Some own → list_any (λ address. bytes_eq address own) addresses ≡ true
    go [] e = absurd (cc)
    go (address ∷ others) e =
        let same : address ≡ own = cc in
        ap (λ (test : Bool). test || list_any (λ a. bytes_eq a own) others) (subst (λ a. bytes_eq a own ≡ true) (sym same) (same-itself own))

module _ (o : SystemState) where
  report_fresh : (frame : List ℕ) (reason place : ℕ) → Reported (IsFresh o o.moment) o frame reason place
  report_fresh frame reason place t at own first reportable = record {
    maker = ap (λ (n : ℕ). DeclaredAt n) at.itself.place;
    made = at.moment;
    source = subst (λ (c : SystemConfiguration). has_address c own ≡ true) at.itself.configuration (own_title t.configuration own first);
    first_position = refl;
    total = total_with t Er own (source_of frame) (header_of frame) t.configuration.settings.life false false (reason_option reason place ∷ []);
  }

  asked_fresh : (t : SystemState) → Goes o t → (kind : Kind) (from to octets : List ℕ) (ask : Ask) → refusal t (unit_of t kind from to octets ask) ≡ None
      → IsFresh o o.moment (unit_of t kind from to octets ask)
  asked_fresh t at kind from to octets ask none = record {
    maker = ap (λ (n : ℕ). DeclaredAt n) at.itself.place;
    made = at.moment;
    source = subst (λ (c : SystemConfiguration). has_address c from ≡ true) at.itself.configuration (allowed t (unit_of t kind from to octets ask) none).own;
    first_position = refl;
    total = total_is t kind from to octets ask;
  }

  causes_fresh : (p : Packet) (following : List ℕ) → CausesSuch (IsFresh o o.moment) o p following
  causes_fresh p following = record {
    reported = λ reason of_none. report_fresh (wire p ++ following) reason 0;
    replied = λ octets request t at none.
        asked_fresh t at Erp p.unit.destination p.unit.source octets (echo_ask t p.unit.destination p.unit.source (length octets) false) none;
  }

all_fresh : (s : SystemState) (input : Input) → AllSuch (IsFresh (begun s input) (moment_after s input)) s input
all_fresh s (AsksToSend from to octets ask) = asked_fresh s s (goes-nowhere s) Dt from to octets ask
all_fresh s (AsksForEcho from to octets) = asked_fresh s s (goes-nowhere s) Erq from to octets (echo_ask s from to (length octets) true)
all_fresh s (FrameComes port sender to_group (Labelled p following)) = causes_fresh s p following
all_fresh s (FrameComes port sender to_group (Esis value following)) = tt
all_fresh s (FrameComes port sender to_group (Unlabelled octets)) = report_fresh s octets
all_fresh s (MomentComes now) = λ p there. report_fresh (at_moment now s) (wire p ++ []) (reason_code LifetimeExpiredInReassembly) 0
all_fresh s IsRestarted = tt
all_fresh s (IsCongested on) = tt
all_fresh s (IsChanged change) = tt

leads_fresh : (s : SystemState) (input : Input) → Leads (IsFresh (begun s input) (moment_after s input)) (begun s input) (step s input)
leads_fresh s input = leads_step (IsFresh (begun s input) (moment_after s input)) s input (all_fresh s input)

pub step_itself : (s : SystemState) (input : Input) → StaysItself s (step s input).after
step_itself s input =
    let went = (leads_fresh s input).goes.itself in
    record { place = went.place; configuration = went.configuration; hold = went.hold; reuse = went.reuse }

pub step_moment : (s : SystemState) (input : Input) → (step s input).after.moment ≡ moment_after s input
step_moment s input = (leads_fresh s input).goes.moment

pub step_attached : (s : SystemState) (input : Input) → (step s input).after.attached ≡ attached_after s input
step_attached s input = (leads_fresh s input).goes.attached

fresh_before : (s : SystemState) (input : Input) (u : DataUnit) → IsFresh (begun s input) (moment_after s input) u → IsFresh s (moment_after s input) u
fresh_before s input u h = record { maker = h.maker; made = h.made; source = h.source; first_position = h.first_position; total = h.total }

pub step_fresh : (s : SystemState) (input : Input) → AllByRecursion (IsFresh s (moment_after s input)) (step s input).units
step_fresh s input =
    AllByRecursion-implies (IsFresh (begun s input) (moment_after s input)) (IsFresh s (moment_after s input))
    (fresh_before s input) (step s input).units (leads_fresh s input).makes.such

pub step_numbered : (s : SystemState) (input : Input) → AreNumbered s.count (step s input).units
step_numbered s input = are_numbered s.count (step s input).after.count (step s input).units (leads_fresh s input).makes.numbered

pub step_few : (s : SystemState) (input : Input) → length s.pending ≤ 8 → length (step s input).after.pending ≤ 8
step_few s input few = (leads_fresh s input).makes.few few

pub step_pending : (s : SystemState) (input : Input) → AllByRecursion (WasPendingOrMade s (step s input)) (step s input).after.pending
step_pending s input = (leads_fresh s input).makes.pending

pub step_budget : (s : SystemState) (input : Input) → IsWithinBudget s → IsWithinBudget (step s input).after
step_budget s input within = (leads_fresh s input).goes.budget within

-- What that says of a deed.

is_deed : (s : SystemState) (deed : Deed) → Does (IsFresh s s.moment) s deed → IsDeed s deed
is_deed s deed h = record { itself = h.goes.itself; moment = h.goes.moment; heard = h.heard; fresh = h.makes.such }

pub make_is : (s : SystemState) (kind : Kind) (from to octets : List ℕ) (ask : Ask) → IsDeed s (make s kind from to octets ask)
make_is s kind from to octets ask =
    is_deed s (make s kind from to octets ask)
    (does_make (IsFresh s s.moment) s kind from to octets ask (asked_fresh s s (goes-nowhere s) kind from to octets ask))

pub receive_is : (s : SystemState) (p : Packet) (following : List ℕ) → IsDeed s (receive s p following)
receive_is s p following =
    is_deed s (receive s p following) (does_receive (IsFresh s s.moment) s p following (causes_fresh s p following) s (goes-nowhere s))

pub discard_is : (s : SystemState) (content : Content) (reason place : ℕ) → IsDeed s (discard s content reason place)
discard_is s content reason place =
    is_deed s (discard s content reason place)
    (does_discard (IsFresh s s.moment) s s (goes-nowhere s) content reason place (report_fresh s (frame_of content) reason place))

pub packet_is : (s : SystemState) (came : Neighbour) (p : Packet) (following : List ℕ) → IsEffect s (packet_comes s came p following)
packet_is s came p following =
    let took = takes_packet (IsFresh s s.moment) s came p following (causes_fresh s p following) in
    record { itself = took.leads.goes.itself; moment = took.leads.goes.moment; heard = took.heard; fresh = took.leads.makes.such }

pub octets_are : (s : SystemState) (octets : List ℕ) → IsDeed s (octets_come s octets)
octets_are s octets =
    is_deed s (octets_come s octets) (does_with_octets (IsFresh s s.moment) s s (goes-nowhere s) octets (report_fresh s octets))

pub tick_is : (s : SystemState) (now : ℕ) → IsDeed (at_moment now s) (tick s now)
tick_is s now = is_deed (at_moment now s) (tick s now) (does_tick (IsFresh (at_moment now s) now) s now (all_fresh s (MomentComes now)))

-- A buffer that is taken out leaves all but the count of units.
pub given_up_after : (s : SystemState) (ended : Buffer Packet)
    → (gives_up s ended).after ≡ record s { buffers = buffer.without ended.key s.buffers; count = (gives_up s ended).after.count }
given_up_after s ended = discarded (buffer.first_carried ended)
  where
    one_of : (t : SystemState) (test : Bool) (u : DataUnit) → u.kind ≡ Er → u.identifier ≡ None
        → (if test then makes t u else rests t).after ≡ record t { count = (if test then makes t u else rests t).after.count }
    one_of t true u kind whole = rw (kind, whole) refl
    one_of t false u kind whole = refl

    reported : (t : SystemState) (frame : List ℕ) (found : Option (List ℕ))
        → (reports_from found t frame (reason_code LifetimeExpiredInReassembly) 0).after
        ≡ record t { count = (reports_from found t frame (reason_code LifetimeExpiredInReassembly) 0).after.count }
    reported t frame None = refl
    reported t frame (Some own) = one_of t (is_reportable frame) (report_unit t own frame (reason_code LifetimeExpiredInReassembly) 0) refl refl

    discarded : (first : Option Packet)
        → (discard_first (record s { buffers = buffer.without ended.key s.buffers }) first).after
        ≡ record s { buffers = buffer.without ended.key s.buffers; count = (discard_first (record s { buffers = buffer.without ended.key s.buffers }) first).after.count }
    discarded None = refl
    discarded (Some p) = reported (record s { buffers = buffer.without ended.key s.buffers }) (wire p ++ []) (slice_get s.configuration.addresses 0)
