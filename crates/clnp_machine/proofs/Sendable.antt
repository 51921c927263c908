-- PDUs can carry what a system sends, where what is asked of it is fair.
use Rattle.clnp_plan.proofs.ClnpBase.Choices.{below_not}
use Rattle.clnp_plan.proofs.ClnpBase.Lists.{AllByRecursion-append, AllByRecursion-implies, AllByRecursion-slice_get, length_part}
use Rattle.std.proofs.Common.{◌≡◌, ℕ, zero, suc, ◌+◌, ◌-◌, ◌^◌, ◌<◌, ◌≤◌, Bool, true, false, not, nat_lt, List, [], ◌∷◌, ◌++◌, length, map, take, drop, All, Option, None, Some, is_some, option_map, refl, sym, ap, arith, subst}
use Rattle.std.specs.Prelude.{◌==◌, slice_get}
use Rattle.std.specs.List.{AllByRecursion, flat_map}
use Rattle.std.proofs.lemmas.Bool.{and_parts}
use Rattle.std.proofs.lemmas.List.Elements.{All-nil, recursion_from_All}
use Rattle.hex.specs.Hex.{IsBytes}
use Rattle.clnp_plan.specs.Nsap.Address.{IsAddress}
use Rattle.clnp_plan.specs.ClnpOptions.Grammar.{AreFormed, FitsKind, HasForm}
use Rattle.clnp_plan.specs.ClnpOptions.Parameter.{parameters, parameters_after}
use Rattle.clnp_plan.specs.ClnpOptions.Reasons.{reason_code}
use Rattle.clnp_plan.specs.Pdus.declared.clnp_options.reasons.Reason.TheVariants.{LifetimeExpiredInReassembly}
use Rattle.clnp_plan.proofs.ClnpOptions.Agree.{are_formed, none_fit}
use Rattle.clnp_plan.specs.Pdus.declared.pdu_header.kind.Kind.{Kind}
use Rattle.clnp_plan.specs.Pdus.declared.pdu_header.kind.Kind.TheVariants.{Dt, Er, Erq, Erp}
use Rattle.clnp_plan.specs.PduHeader.Grammar.{IsSegment, is_report}
use Rattle.clnp_plan.specs.PduHeader.Rules.{extent_refusal, header_of, header_size as size_of_header, is_bad_address, is_reportable, octet, source_place, type_of, wants_report}
use Rattle.clnp_plan.proofs.PduHeader.Accepted.{within}
use Rattle.clnp_plan.proofs.PduHeader.Spelled.{address_is}
use Rattle.pdus.specs.MadePdus.Report.{reason_option, source_of}
use Rattle.pdus.proofs.MadePdus.Lengths.{four}
use Rattle.pdus.proofs.MadePdus.Reason.{alone, alone_fits}
use Rattle.system_tables.specs.Reassembly.Arrival.{Arrival}
use Rattle.clnp_plan.specs.SystemTables.declared.esis_tables.fact.Neighbour.{Neighbour}
use Rattle.clnp_plan.specs.Asking.{IsFormedAsk}
use Rattle.clnp_plan.specs.Configuration.{HasItsAddresses, IsPort, IsSystem, SystemConfiguration}
use Rattle.clnp_plan.specs.declared.config.Role.{Role}
use Rattle.clnp_plan.specs.declared.ask.Ask.{Ask}
use Rattle.clnp_plan.specs.declared.config.PortConfig.{PortConfig}
use Rattle.clnp_machine.specs.Attachment.{Attachment}
use Rattle.clnp_machine.specs.Unit.{DataUnit, Packet, IsCarriable, cut, more_follows, value_of, value_with, whole_packet, wire}
use Rattle.clnp_machine.specs.Content.{Content, Esis, IsCarried, Labelled, Unlabelled}
use Rattle.clnp_machine.specs.System.{SystemState, Input, AsksToSend, AsksForEcho, FrameComes, MomentComes, IsRestarted, IsCongested, IsChanged, Output, Transmits, SendsEsis, Notes, Effect, then_does}
use Rattle.clnp_machine.specs.Esis.{esis_comes, forgets, says_hello, title_of}
use Rattle.clnp_machine.specs.Local.{Action, Deed, IsAsOffered, Sends, Tells, at_moment, discard, echo_ask, header_size, identifier_for, made_in, make, most_octets, receive, refusal, report_unit, tick, unit_of}
use Rattle.clnp_machine.specs.Step.{Hop, content_comes, effect_of, first_sent, forwarded, loss_at, moment_comes, octets_come, outputs_of, packet_comes, responds, sent_on, step, transmissions, unit_hop, hop_by, options_behind, redirects}
use Rattle.clnp_machine.specs.EveryStep.{AreCarriable, ComesWith, IsFair, IsOfHellos, KeepsAsOffered, OnlyHellos, SendsCarriable}
use Rattle.clnp_machine.proofs.Deeds.{AllSuch, CausesSuch, Does, Replied, Reported, does_discard, does_make, does_receive, does_tick, does_with_octets, goes-nowhere}
use Rattle.clnp_machine.proofs.Gained.{all_segments, each_kept, keeps_step}
use Rattle.clnp_machine.proofs.Hellos.{only_comes, only_forgets, only_responds, only_says_hello, only_then}
use Rattle.clnp_machine.proofs.Making.{allowed, total_is, total_with}
use Rattle.clnp_machine.specs.EditLaws.{EditLaws}
use Rattle.clnp_machine.proofs.Behind.{behind_carriable, first_is}
use Rattle.clnp_machine.proofs.Passing.{Onward, packet_does, redirects_are}
use Rattle.clnp_machine.proofs.Pieces.{cut_carriable}
use Rattle.clnp_machine.proofs.Reporting.{header_in, kept_carriable, source_is}
use Rattle.clnp_machine.proofs.Headers.{header_length-is, read_as}
use Rattle.clnp_plan.proofs.ClnpBase.ListSteps.{bytes_of_take}

each_sent : (hop : Hop) (packets : List Packet) → AllByRecursion IsCarriable packets
    → AllByRecursion SendsCarriable (map (λ packet. Transmits hop.port hop.target packet) packets)
each_sent hop [] k = tt
each_sent hop (packet ∷ packets) k = (k.0, each_sent hop packets k.1)

-- an identifier, where there is one, has two octets
abbrev pub IsSmall : Option ℕ → Type 0
IsSmall None = Unit {0}
IsSmall (Some identifier) = identifier < 2 ^ 16

-- what a unit is of which one PDU can carry all
pub record IsSendable (u : DataUnit) : Type 0 where
  pub lifetime : u.lifetime < 256
  pub destination : IsAddress u.destination
  pub source : IsAddress u.source
  pub identifier : IsSmall u.identifier
  pub options : AreFormed u.options
  pub reason : FitsKind (is_report u.kind) u.options
  pub first_position : u.first_position ≡ 0
  pub total : u.total ≡ header_size u + length u.octets
  pub octets : length u.octets ≤ most_octets
  pub header : header_size u ≤ 254

module _ (u : DataUnit) (h : IsSendable u) where
  abbrev whole : Packet
  whole = whole_packet u

  whole_length : length (take (length u.octets) (drop (0 - u.first_position) u.octets)) ≡ length u.octets
  whole_length = length_part u.octets (0 - u.first_position) (length u.octets) (omega arith)

  segment_fits : (identifier : Option ℕ) → IsSmall identifier
      → IsSegment (value_with whole (more_follows whole identifier)) (option_map (λ i. record { identifier = i; offset = 0; total = u.total }) identifier)
  segment_fits None small = refl
  segment_fits (Some identifier) small =
      let size = whole_length in
      let total = h.total in
      let octets = h.octets in
      let header = h.header in
      let none : nat_lt (0 + length u.octets) (u.total - header_size u) ≡ false = below_not (0 + length u.octets) (u.total - header_size u) (omega arith) in
      record {
        identifier = small;
        offset = omega arith;
        total = omega arith;
        range = record { holds_header = omega arith; within = omega arith; ends = (λ e. omega arith, λ e. none) };
      }

  whole_carriable : IsCarriable whole
  whole_carriable =
      let size = whole_length in
      let header = h.header in
      let octets = h.octets in
      record {
        pdu = record {
          lifetime = h.lifetime;
          destination = h.destination;
          source = h.source;
          segmentation = segment_fits u.identifier h.identifier;
          options = h.options;
          reason = h.reason;
          header_fits = h.header;
          segment_fits = omega arith;
        };
        from = omega (arith, h.first_position);
        to = omega (arith, h.first_position);
      }

  pieces_sent : (hop : Hop) (found : Option (List Packet)) → AreCarriable found → AllByRecursion SendsCarriable (transmissions hop found)
  pieces_sent hop None k = (tt, tt)
  pieces_sent hop (Some packets) k = each_sent hop packets k

  sent_on_is_carriable : (hop : Hop) (found : Option PortConfig) → ((port : PortConfig) → found ≡ Some port → 512 ≤ port.mtu)
      → AllByRecursion SendsCarriable (sent_on hop found u)
  sent_on_is_carriable hop None wide = (tt, tt)
  sent_on_is_carriable hop (Some port) wide = pieces_sent hop (cut whole port.mtu) (cut_carriable whole port.mtu whole_carriable (wide port refl))

  first_is_carriable : (s : SystemState) (hop : Option Hop) → AllByRecursion IsPort s.attached.ports → AllByRecursion SendsCarriable (first_sent s u hop)
  first_is_carriable s None each = (tt, tt)
  first_is_carriable s (Some hop) each =
      sent_on_is_carriable hop (slice_get s.attached.ports hop.port)
      (λ port there. (AllByRecursion-slice_get IsPort s.attached.ports hop.port port there each).mtu.least)

small_identifier : (s : SystemState) (segment : Bool) → IsSmall (identifier_for s segment)
small_identifier s true = omega arith
small_identifier s false = tt

-- Options of units that a system makes unasked.

reason_formed : (cause place : ℕ) → AreFormed (reason_option cause place ∷ [])
unfolding parameters_after
reason_formed cause place = are_formed (reason_option cause place ∷ []) (alone cause place)

none_formed : AreFormed (parameters [])
unfolding parameters_after
none_formed = record { formed = All-nil HasForm; distinct = λ i j d before within. absurd (omega arith) }

-- a unit that is asked for between addresses and isn't refused
asked_is_sendable : (t : SystemState) (kind : Kind) (from to octets : List ℕ) (ask : Ask) → IsFormedAsk from to ask
    → FitsKind (is_report kind) (parameters ask.options) → refusal t (unit_of t kind from to octets ask) ≡ None
    → IsSendable (unit_of t kind from to octets ask)
asked_is_sendable t kind from to octets ask formed fits none =
    let is = allowed t (unit_of t kind from to octets ask) none in
    record {
      lifetime = formed.lifetime;
      destination = formed.destination;
      source = formed.source;
      identifier = small_identifier t ask.segment;
      options = formed.options;
      reason = fits;
      first_position = refl;
      total = total_is t kind from to octets ask;
      octets = is.octets;
      header = is.header;
    }

-- an echo request or reply is asked for as it should be
echo_formed : (t : SystemState) → IsSystem t.configuration → (from to : List ℕ) (len : ℕ) (report : Bool) → IsAddress from → IsAddress to
    → IsFormedAsk from to (echo_ask t from to len report)
echo_formed t system from to len report source destination =
    let most = system.settings.life.most in
    record { source = source; destination = destination; lifetime = omega arith; options = none_formed }

-- what a frame's header tells where the frame's discard is reported
record IsReadable (frame : List ℕ) : Type 0 where
  source : IsAddress (source_of frame)
  few : length (header_of frame) ≤ 255

readable_packet : (p : Packet) (following : List ℕ) → IsCarriable p → IsReadable (wire p ++ following)
readable_packet p following h =
    let short = (read_as (value_of p) h.pdu).short in
    let size = ap length (header_in p following h) in
    record { source = subst IsAddress (sym (source_is p following h)) h.pdu.source; few = omega arith }

not_true : (test : Bool) → not test ≡ true → test ≡ false
not_true true e = absurd (cc)
not_true false e = refl

take_few : (n : ℕ) (xs : List ℕ) → length (take n xs) ≤ n
take_few zero xs = omega arith
take_few (suc n) [] = omega arith
take_few (suc n) (x ∷ xs) = let few = take_few n xs in omega arith

readable_octets : (octets : List ℕ) → IsBytes octets → is_reportable octets ≡ true → IsReadable octets
readable_octets octets bytes is =
    let head = header_of octets in
    let begun = and_parts (octet octets 1 == 0x81) _ is in
    let whole = and_parts (not (is_some (extent_refusal octets))) _ begun.1 in
    let wanted = and_parts (wants_report head) _ whole.1 in
    let no_report = and_parts (not (type_of head == 1)) _ wanted.1 in
    let addresses = and_parts (not (is_bad_address head 10)) (not (is_bad_address head (source_place head))) no_report.1 in
    let small : size_of_header octets < 256 = bytes 1 in
    let few = take_few (size_of_header octets) octets in
    record {
      source = address_is head (source_place head) (bytes_of_take octets (size_of_header octets) bytes)
          (within head (source_place head) (not_true (is_bad_address head (source_place head)) addresses.1));
      few = omega arith;
    }

module _ (s : SystemState) (system : IsSystem s.configuration) (each : All IsAddress s.configuration.addresses) where
  report_sendable : (frame : List ℕ) (reason place : ℕ) → (is_reportable frame ≡ true → IsReadable frame) → Reported IsSendable s frame reason place
  report_sendable frame reason place readable t at own first reportable =
      let life = (subst IsSystem (sym at.itself.configuration) system).settings.life.most in
      let addresses : All IsAddress t.configuration.addresses = subst (λ (c : SystemConfiguration). All IsAddress c.addresses) (sym at.itself.configuration) each in
      let source : IsAddress own =
      AllByRecursion-slice_get IsAddress t.configuration.addresses 0 own first (recursion_from_All IsAddress t.configuration.addresses addresses) in
      let is = readable reportable in
      let from = source.few in
      let to = is.source.few in
      let few = is.few in
      let size = header_length-is (value_of (whole_packet (report_unit t own frame reason place))) in
      let option = four (reason_option reason place ∷ []) reason place refl in
      record {
        lifetime = omega arith;
        destination = is.source;
        source = source;
        identifier = tt;
        options = reason_formed reason place;
        reason = alone_fits (reason_option reason place ∷ []) reason place refl;
        first_position = refl;
        total = total_with t Er own (source_of frame) (header_of frame) t.configuration.settings.life false false (reason_option reason place ∷ []);
        octets = omega arith;
        header = omega arith;
      }

  reply_sendable : (source destination octets : List ℕ) → IsAddress source → IsAddress destination → Replied IsSendable s source destination octets
  reply_sendable source destination octets from to t at none =
      asked_is_sendable t Erp destination source octets (echo_ask t destination source (length octets) false)
      (echo_formed t (subst IsSystem (sym at.itself.configuration) system) destination source (length octets) false to from) none_fit none

  causes_sendable : (p : Packet) (following : List ℕ) → IsCarriable p → CausesSuch IsSendable s p following
  causes_sendable p following h = record {
    reported = λ reason of_none. report_sendable (wire p ++ following) reason 0 (λ is. readable_packet p following h);
    replied = λ octets request. reply_sendable p.unit.source p.unit.destination octets h.pdu.source h.pdu.destination;
  }

pub all_sendable : (s : SystemState) (input : Input) → IsSystem s.configuration → IsFair input → All IsAddress s.configuration.addresses → KeepsAsOffered s
    → AllSuch IsSendable s input
all_sendable s (AsksToSend from to octets ask) system fair each keeps = asked_is_sendable s Dt from to octets ask fair.0 fair.1
all_sendable s (AsksForEcho from to octets) system fair each keeps =
    asked_is_sendable s Erq from to octets (echo_ask s from to (length octets) true)
    (echo_formed s system from to (length octets) true fair.0 fair.1) none_fit
all_sendable s (FrameComes port sender to_group (Labelled p following)) system fair each keeps = causes_sendable s system each p following fair.1
all_sendable s (FrameComes port sender to_group (Esis value following)) system fair each keeps = tt
all_sendable s (FrameComes port sender to_group (Unlabelled octets)) system fair each keeps =
    λ reason place. report_sendable s system each octets reason place (readable_octets octets fair.1.bytes)
all_sendable s (MomentComes now) system fair each keeps =
    λ p there. report_sendable (at_moment now s) system each (wire p ++ []) (reason_code LifetimeExpiredInReassembly) 0
    (λ is. readable_packet p [] (kept_carriable s keeps p there))
all_sendable s IsRestarted system fair each keeps = tt
all_sendable s (IsCongested on) system fair each keeps = tt
all_sendable s (IsChanged change) system fair each keeps = tt

-- What is sent of what a system does at its addresses.

deeds_carriable : (t : SystemState) (actions : List Action) → AllByRecursion IsPort t.attached.ports → AllByRecursion IsSendable (made_in actions)
    → AllByRecursion SendsCarriable (flat_map (outputs_of t) actions)
deeds_carriable t [] each h = tt
deeds_carriable t (Tells told ∷ actions) each h = (tt, deeds_carriable t actions each h)
deeds_carriable t (Sends u ∷ actions) each h =
    AllByRecursion-append SendsCarriable (first_sent t u (unit_hop t u)) (flat_map (outputs_of t) actions)
    (first_is_carriable u h.0 t (unit_hop t u) each) (deeds_carriable t actions each h.1)

deed_carriable : (s : SystemState) (deed : Deed) → AllByRecursion IsPort s.attached.ports → Does IsSendable s deed
    → AllByRecursion SendsCarriable (effect_of deed).outputs
deed_carriable s deed wide h =
    deeds_carriable deed.after deed.actions
    (subst (λ (a : Attachment). AllByRecursion IsPort a.ports) (sym h.goes.attached) wide) h.makes.such

-- What goes on.

found_carriable : (found : Option (List Packet)) (given : List Packet) → found ≡ Some given → AreCarriable found → AllByRecursion IsCarriable given
found_carriable found given same h = subst AreCarriable same h

onward_carriable : EditLaws → (s : SystemState) (came : Neighbour) (p : Packet) → AllByRecursion IsPort s.attached.ports → IsAddress (title_of s)
    → IsCarriable p → Onward (λ effect. AllByRecursion SendsCarriable effect.outputs) s came p
onward_carriable laws s came p each title h way port given there alive gives known =
    let options = options_behind s p.options in
    let wide : 512 ≤ port.mtu = (AllByRecursion-slice_get IsPort s.attached.ports way.neighbour.port port there each).mtu.least in
    AllByRecursion-append SendsCarriable (transmissions (hop_by way) (Some given)) (redirects s came p options way)
    (each_sent (hop_by way) given
    (found_carriable (cut (forwarded p (loss_at port) options) port.mtu) given gives
    (cut_carriable (forwarded p (loss_at port) options) port.mtu (behind_carriable laws s p (loss_at port) title h) wide)))
    (redirects_are SendsCarriable s came p options way (λ to. tt))

hello_carriable : (output : Output) → IsOfHellos output → SendsCarriable output
hello_carriable (Transmits port target packet) h = absurd h
hello_carriable (SendsEsis port target value) h = tt
hello_carriable (Notes note) h = tt

hellos_carriable : (s : SystemState) (effect : Effect) → OnlyHellos s effect → AllByRecursion SendsCarriable effect.outputs
hellos_carriable s effect h = AllByRecursion-implies IsOfHellos SendsCarriable hello_carriable effect.outputs h.outputs

packet_carriable : EditLaws → (s : SystemState) (came : Neighbour) (p : Packet) (following : List ℕ) → All IsAddress s.configuration.addresses
    → IsSystem s.configuration → AllByRecursion IsPort s.attached.ports → IsCarriable p → CausesSuch IsSendable s p following
    → AllByRecursion SendsCarriable (packet_comes s came p following).outputs
packet_carriable laws s came p following each system wide h such =
    packet_does (λ effect. AllByRecursion SendsCarriable effect.outputs) s came p following
    (λ reason of_none. deed_carriable s (discard s (Labelled p following) reason 0) wide
    (does_discard IsSendable s s (goes-nowhere s) (Labelled p following) reason 0 (such.reported reason of_none)))
    (λ router. onward_carriable laws s came p wide
    (first_is s.configuration.addresses (subst (λ (role : Role). HasItsAddresses role s.configuration.addresses) router system.addresses) each) h)
    (tt, tt)
    (λ own. deed_carriable s (receive s p following) wide (does_receive IsSendable s p following such s (goes-nowhere s)))

content_carriable : EditLaws → (s : SystemState) (port : ℕ) (sender : List ℕ) (to_group : Bool) (content : Content)
    → All IsAddress s.configuration.addresses → IsSystem s.configuration → AllByRecursion IsPort s.attached.ports → IsCarried content
    → AllSuch IsSendable s (FrameComes port sender to_group content)
    → AllByRecursion SendsCarriable (content_comes s (record { port = port; snpa = sender }) to_group content).outputs
content_carriable laws s port sender to_group (Labelled p following) each system wide h such =
    let neighbour : Neighbour = record { port = port; snpa = sender } in
    let come = packet_comes s neighbour p following in
    AllByRecursion-append SendsCarriable come.outputs (responds come.after neighbour to_group p).outputs
    (packet_carriable laws s neighbour p following each system wide h such)
    (hellos_carriable come.after (responds come.after neighbour to_group p) (only_responds come.after neighbour to_group p))
content_carriable laws s port sender to_group (Esis value following) each system wide h such =
    let neighbour : Neighbour = record { port = port; snpa = sender } in hellos_carriable s (esis_comes s neighbour value) (only_comes s neighbour value)
content_carriable laws s port sender to_group (Unlabelled octets) each system wide h such =
    deed_carriable s (octets_come s octets) wide (does_with_octets IsSendable s s (goes-nowhere s) octets such)

moment_carriable : (s : SystemState) (now : ℕ) → AllByRecursion IsPort s.attached.ports → AllSuch IsSendable s (MomentComes now)
    → AllByRecursion SendsCarriable (moment_comes s now).outputs
moment_carriable s now wide such =
    let ticked = (tick s now).after in
    let hellos = then_does (forgets s.moment ticked) says_hello in
    AllByRecursion-append SendsCarriable (effect_of (tick s now)).outputs hellos.outputs
    (deed_carriable (at_moment now s) (tick s now) wide (does_tick IsSendable s now such))
    (hellos_carriable ticked hellos
    (only_then ticked (forgets s.moment ticked) says_hello (only_forgets s.moment ticked) (only_says_hello ticked)))

carriable_where : EditLaws → (s : SystemState) (input : Input) → IsSystem s.configuration → AllByRecursion IsPort s.attached.ports → IsFair input
    → All IsAddress s.configuration.addresses → AllSuch IsSendable s input
    → AllByRecursion SendsCarriable (step s input).outputs
carriable_where laws s (AsksToSend from to octets ask) system wide fair each such =
    deed_carriable s (make s Dt from to octets ask) wide (does_make IsSendable s Dt from to octets ask such)
carriable_where laws s (AsksForEcho from to octets) system wide fair each such =
    let ask = echo_ask s from to (length octets) true in
    deed_carriable s (make s Erq from to octets ask) wide (does_make IsSendable s Erq from to octets ask such)
carriable_where laws s (FrameComes port sender to_group content) system wide fair each such =
    content_carriable laws s port sender to_group content each system wide fair.1 such
carriable_where laws s (MomentComes now) system wide fair each such = moment_carriable s now wide such
carriable_where laws s IsRestarted system wide fair each such = (tt, tt)
carriable_where laws s (IsCongested on) system wide fair each such = (tt, tt)
carriable_where laws s (IsChanged change) system wide fair each such = tt

pub step_carriable : EditLaws → (s : SystemState) (input : Input) → IsSystem s.configuration → AllByRecursion IsPort s.attached.ports → IsFair input
    → All IsAddress s.configuration.addresses → KeepsAsOffered s → AllByRecursion SendsCarriable (step s input).outputs
step_carriable laws s input system wide fair each keeps =
    carriable_where laws s input system wide fair each (all_sendable s input system fair each keeps)

-- Segments that are kept are as they were offered.

comes_offered : (input : Input) → IsFair input → (arrival : Arrival Packet) → ComesWith input arrival → IsAsOffered arrival
comes_offered (FrameComes port sender to_group (Labelled p following)) fair arrival comes =
    subst IsAsOffered (sym comes) (record { following = following; is_offered = refl; carriable = fair.1 })
comes_offered (FrameComes port sender to_group (Esis value following)) fair arrival comes = absurd comes
comes_offered (FrameComes port sender to_group (Unlabelled octets)) fair arrival comes = absurd comes
comes_offered (AsksToSend from to octets ask) fair arrival comes = absurd comes
comes_offered (AsksForEcho from to octets) fair arrival comes = absurd comes
comes_offered (MomentComes now) fair arrival comes = absurd comes
comes_offered IsRestarted fair arrival comes = absurd comes
comes_offered (IsCongested on) fair arrival comes = absurd comes
comes_offered (IsChanged change) fair arrival comes = absurd comes

pub step_keeps : (s : SystemState) (input : Input) → IsFair input → KeepsAsOffered s → KeepsAsOffered (step s input).after
step_keeps s input fair keeps =
    all_segments IsAsOffered (step s input).after.buffers
    (keeps_step IsAsOffered s input (each_kept IsAsOffered s.buffers keeps) (comes_offered input fair))
