-- All that a system sends goes by a port that is there.
use Rattle.std.proofs.Common.{◌≡◌, sym, ap, ℕ, zero, suc, ◌+◌, ◌<◌, ◌≤◌, Bool, true, false, List, [], ◌∷◌, length, Option, None, Some, arith}
use Rattle.std.specs.Prelude.{◌&&◌, not, nat_le, if◌then◌else◌, slice_get}
use Rattle.std.specs.List.{AllByRecursion, flat_map, list_any, range_with_len}
use Rattle.std.proofs.lemmas.Option.{slice_get_within}
use Rattle.clnp_plan.proofs.ClnpBase.Choices.{one_of}
use Rattle.clnp_plan.proofs.ClnpBase.Lists.{AllByRecursion-append, AllByRecursion-implies, AllByRecursion-map_any, AllByRecursion-mapped}
use Rattle.clnp_plan.specs.Pdus.declared.pdu_header.kind.Kind.TheVariants.{Dt, Erq}
use Rattle.pdus.specs.declared.esis_pdus.pdu.EsisBody.{EsisBody}
use Rattle.pdus.specs.declared.esis_pdus.pdu.EsisBody.TheVariants as body
use Rattle.pdus.specs.declared.esis_pdus.pdu.EsisBody.TheVariants.{Esh, Ish}
use Rattle.pdus.specs.EsisPdus.Value.{suggested}
use Rattle.clnp_plan.specs.SystemTables.declared.esis_tables.fact.Neighbour.{Neighbour}
use Rattle.clnp_plan.specs.SystemTables.declared.esis_tables.fact.TableKind.TheVariants.{Is}
use Rattle.clnp_plan.specs.EsisTables.Gone.{gone}
use Rattle.clnp_plan.specs.declared.config.PortConfig.{PortConfig}
use Rattle.clnp_plan.specs.declared.config.Role.{Role}
use Rattle.clnp_plan.specs.declared.config.Role.TheVariants.{Host, Router}
use Rattle.clnp_machine.specs.Attachment.{Attachment}
use Rattle.clnp_machine.specs.Unit.{DataUnit, Packet, cut, whole_packet}
use Rattle.clnp_machine.specs.Content.{Content, Esis, Labelled, Unlabelled}
use Rattle.clnp_machine.specs.System.{SystemState, Input, AsksToSend, AsksForEcho, FrameComes, MomentComes, IsRestarted, IsCongested, IsChanged, Output, Transmits, SendsEsis, Notes, Effect, idles, then_does}
use Rattle.clnp_machine.specs.Esis.{answers_new, end_system_heard, esis_heard, forgets, gone_note, hearers, hears, hears_each, intermediate_system_heard, is_silent, own_hello, redirect_heard, says_hello, tells_new, tells_of_itself}
use Rattle.clnp_machine.specs.Local.{Action, Sends, Tells, discard, echo_ask, make, receive, requests_echo, tick}
use Rattle.clnp_machine.specs.Ports.{ComesByPort, GoesByPort, HasPort}
use Rattle.clnp_machine.specs.Step.{Hop, content_comes, first_sent, hop_by, is_asked_for, octets_come, options_behind, outputs_of, packet_comes, redirects, responds, sent_on, step, transmissions, unit_hop}
use Rattle.clnp_machine.specs.EveryStep.{sends_frame}
use Rattle.clnp_machine.proofs.Answering.{hears_notes, redirect_notes}
use Rattle.clnp_machine.proofs.Deeds.{discard_is, make_is, octets_are, receive_is, tick_is}
use Rattle.clnp_machine.proofs.Passing.{packet_does, redirects_are}

-- each number of some in a row is below their end
each_below : (from count most : ℕ) → from + count ≤ most → AllByRecursion (λ (i : ℕ). i < most) (range_with_len from count)
each_below from zero most h = tt
each_below from (suc count) most h = (omega arith, each_below (from + 1) count most (omega arith))

module _ (s : SystemState) where
  abbrev ByPorts : List Output → Type 0
  ByPorts outputs = AllByRecursion (GoesByPort s) outputs

  -- Packets.

  transmitted_by : (hop : Hop) (found : Option (List Packet)) → HasPort s hop.port → ByPorts (transmissions hop found)
  transmitted_by hop None there = (tt, tt)
  transmitted_by hop (Some pieces) there =
      AllByRecursion-map_any (GoesByPort s) (λ piece. Transmits hop.port hop.target piece) pieces (λ piece. there)

  sent_by : (hop : Hop) (found : Option PortConfig) (u : DataUnit) → slice_get s.attached.ports hop.port ≡ found → ByPorts (sent_on hop found u)
  sent_by hop None u e = (tt, tt)
  sent_by hop (Some port) u e =
      transmitted_by hop (cut (whole_packet u) port.mtu) (slice_get_within s.attached.ports hop.port port e)

  first_by : (t : SystemState) → t.attached ≡ s.attached → (u : DataUnit) (hop : Option Hop) → ByPorts (first_sent t u hop)
  first_by t same u None = (tt, tt)
  first_by t same u (Some hop) =
      sent_by hop (slice_get t.attached.ports hop.port) u (ap (λ (a : Attachment). slice_get a.ports hop.port) (sym same))

  deeds_by : (t : SystemState) → t.attached ≡ s.attached → (actions : List Action) → ByPorts (flat_map (outputs_of t) actions)
  deeds_by t same [] = tt
  deeds_by t same (Tells told ∷ actions) = (tt, deeds_by t same actions)
  deeds_by t same (Sends u ∷ actions) =
      AllByRecursion-append (GoesByPort s) (first_sent t u (unit_hop t u)) (flat_map (outputs_of t) actions) (first_by t same u (unit_hop t u))
      (deeds_by t same actions)

  packet_by : (came : Neighbour) (p : Packet) (following : List ℕ) → HasPort s came.port → ByPorts (packet_comes s came p following).outputs
  packet_by came p following here =
      packet_does (λ effect. ByPorts effect.outputs) s came p following
      (λ reason of_none.
      let deed = discard s (Labelled p following) reason 0 in
      deeds_by deed.after (discard_is s (Labelled p following) reason 0).heard.attached deed.actions)
      (λ router way port pieces there alive gives known.
      let options = options_behind s p.options in
      AllByRecursion-append (GoesByPort s) (transmissions (hop_by way) (Some pieces)) (redirects s came p options way)
      (transmitted_by (hop_by way) (Some pieces) (slice_get_within s.attached.ports way.neighbour.port port there))
      (redirects_are (GoesByPort s) s came p options way (λ none. here)))
      (tt, tt) (λ mine. deeds_by (receive s p following).after (receive_is s p following).heard.attached (receive s p following).actions)

  -- What is said and heard.

  noted_by : (output : Output) → sends_frame output ≡ false → GoesByPort s output
  noted_by (Transmits port target packet) silent = absurd (cc)
  noted_by (SendsEsis port target value) silent = absurd (cc)
  noted_by (Notes note) silent = tt

  hears_by : (t : SystemState) (addresses : List (List ℕ)) (neighbour : Neighbour) (holding : ℕ) → ByPorts (hears_each t addresses neighbour holding).outputs
  hears_by t addresses neighbour holding =
      AllByRecursion-implies (λ output. sends_frame output ≡ false) (GoesByPort s) noted_by (hears_each t addresses neighbour holding).outputs
      (hears_notes t addresses neighbour holding)

  one_by : (test : Bool) (first second : Effect) → ByPorts first.outputs → ByPorts second.outputs → ByPorts (if test then first else second).outputs
  one_by test first second h k = one_of (λ (effect : Effect). ByPorts effect.outputs) test first second h k

  told_by : (t : SystemState) (neighbour : Neighbour) → HasPort s neighbour.port → ByPorts (tells_of_itself t neighbour.port neighbour.snpa).outputs
  told_by t neighbour here = one_by (is_silent t) (idles t) _ tt (here, tt)

  says_by : (t : SystemState) → t.attached ≡ s.attached → ByPorts (says_hello t).outputs
  says_by t same =
      let count : length t.attached.ports ≡ length s.attached.ports = ap (λ (a : Attachment). length a.ports) same in
      one_by (not (is_silent t) && nat_le t.next_hello t.moment) _ (idles t)
      (AllByRecursion-mapped (λ (port : ℕ). port < length s.attached.ports) (GoesByPort s)
      (λ port. SendsEsis port (hearers t.configuration.role) (own_hello t)) (range_with_len 0 (length t.attached.ports)) (λ port there. there)
      (each_below 0 (length t.attached.ports) (length s.attached.ports) (omega arith)))
      tt

  answers_by : (heard : Effect) (neighbour : Neighbour) → HasPort s neighbour.port → ByPorts heard.outputs → ByPorts (answers_new heard neighbour).outputs
  answers_by heard neighbour here h =
      let t = heard.after in
      AllByRecursion-append (GoesByPort s) heard.outputs (if list_any tells_new heard.outputs then tells_of_itself t neighbour.port neighbour.snpa else idles t).outputs h
      (one_by (list_any tells_new heard.outputs) _ _ (told_by t neighbour here) tt)

  end_system_by : (role : Role) (neighbour : Neighbour) (holding : ℕ) (addresses : List (List ℕ)) → HasPort s neighbour.port
      → ByPorts (end_system_heard role s neighbour holding addresses).outputs
  end_system_by Host neighbour holding addresses here = hears_by s addresses neighbour holding
  end_system_by Router neighbour holding addresses here = answers_by (hears_each s addresses neighbour holding) neighbour here (hears_by s addresses neighbour holding)

  intermediate_system_by : (role : Role) (neighbour : Neighbour) (holding : ℕ) (title : List ℕ) (timer : Option ℕ) → HasPort s neighbour.port
      → ByPorts (intermediate_system_heard role s neighbour holding title timer).outputs
  intermediate_system_by Host neighbour holding title timer here =
      let heard = hears s Is title neighbour holding in
      AllByRecursion-append (GoesByPort s) (answers_new heard neighbour).outputs [] (answers_by heard neighbour here (tt, tt)) tt
  intermediate_system_by Router neighbour holding title timer here = (tt, tt)

  heard_by : (role : Role) (neighbour : Neighbour) (holding : ℕ) (told : EsisBody) (timer : Option ℕ) → HasPort s neighbour.port
      → ByPorts (esis_heard role s neighbour holding told timer).outputs
  heard_by role neighbour holding (Esh addresses) timer here = end_system_by role neighbour holding addresses here
  heard_by role neighbour holding (Ish title) timer here = intermediate_system_by role neighbour holding title timer here
  heard_by role neighbour holding (body.Rd to via title) timer here =
      AllByRecursion-implies (λ output. sends_frame output ≡ false) (GoesByPort s) noted_by (redirect_heard role s neighbour holding to via).outputs
      (redirect_notes role s neighbour holding to via)

  -- Whatever comes.

  content_by : (neighbour : Neighbour) (to_group : Bool) (content : Content) → HasPort s neighbour.port → ByPorts (content_comes s neighbour to_group content).outputs
  content_by neighbour to_group (Labelled p following) here =
      let come = packet_comes s neighbour p following in
      let t = come.after in
      AllByRecursion-append (GoesByPort s) come.outputs (responds t neighbour to_group p).outputs (packet_by neighbour p following here)
      (one_by (is_asked_for t.configuration.role t to_group p) _ _ (told_by t neighbour here) tt)
  content_by neighbour to_group (Esis value following) here =
      heard_by s.configuration.role neighbour value.holding value.body (suggested value.body value.options) here
  content_by neighbour to_group (Unlabelled octets) here =
      deeds_by (octets_come s octets).after (octets_are s octets).heard.attached (octets_come s octets).actions

  pub step_by : (input : Input) → ComesByPort s input → ByPorts (step s input).outputs
  step_by (AsksToSend from to octets ask) here =
      deeds_by (make s Dt from to octets ask).after (make_is s Dt from to octets ask).heard.attached (make s Dt from to octets ask).actions
  step_by (AsksForEcho from to octets) here =
      let deed = requests_echo s from to octets in
      deeds_by deed.after (make_is s Erq from to octets (echo_ask s from to (length octets) true)).heard.attached deed.actions
  step_by (FrameComes port sender to_group content) here = content_by (record { port = port; snpa = sender }) to_group content here
  step_by (MomentComes now) here =
      let deed = tick s now in
      let t = deed.after in
      let u = (forgets s.moment t).after in
      AllByRecursion-append (GoesByPort s) (flat_map (outputs_of t) deed.actions) (then_does (forgets s.moment t) says_hello).outputs
      (deeds_by t (tick_is s now).heard.attached deed.actions)
      (AllByRecursion-append (GoesByPort s) (forgets s.moment t).outputs (says_hello u).outputs
      (AllByRecursion-map_any (GoesByPort s) gone_note (gone s.moment t.moment t.facts) (λ key. tt)) (says_by u (tick_is s now).heard.attached))
  step_by IsRestarted here = (tt, tt)
  step_by (IsCongested on) here = (tt, tt)
  step_by (IsChanged change) here = tt
