-- What a system sends: ranges of the units that it makes, and what goes on.
use Rattle.clnp_plan.proofs.ClnpBase.Lists.{AllByRecursion-append, AllByRecursion-implies, AllByRecursion-mapped}
use Rattle.std.proofs.Common.{◌≡◌, ◌∙◌, ap, sym, inl, inr, ℕ, zero, suc, ◌+◌, ◌-◌, ◌*◌, ◌/◌, ◌<◌, ◌≤◌, Bool, true, false, List, [], ◌∷◌, ◌++◌, length, map, Option, None, Some, nat_le, option_map, if◌then◌else◌, Contains, refl, subst, arith}
use Rattle.std.specs.List.{AllByRecursion, flat_map, range_with_len}
use Rattle.std.proofs.lemmas.List.Elements.{Contains-append_left, Contains-append_right}
use Rattle.std.specs.Prelude.{slice_get}
use Rattle.clnp_plan.specs.SystemTables.declared.esis_tables.fact.Neighbour.{Neighbour}
use Rattle.clnp_plan.specs.Pdus.declared.pdu_header.kind.Kind.TheVariants.{Dt}
use Rattle.clnp_plan.specs.PduHeader.Spelling.{header_length}
use Rattle.clnp_plan.specs.declared.config.PortConfig.{PortConfig}
use Rattle.pdus.specs.MadePdus.Range.{Range}
use Rattle.pdus.specs.MadePdus.Cut.{data_room, nth_range, ranges}
use Rattle.clnp_plan.specs.ClnpOptions.Edits.{HaveOneForm}
use Rattle.clnp_plan.specs.ClnpOptions.Parameter.{Parameter}
use Rattle.clnp_machine.specs.Unit.{DataUnit, Packet, value_of, wire, whole_packet, piece_of, pieces, cut}
use Rattle.clnp_machine.specs.Content.{Labelled, Esis, Unlabelled}
use Rattle.clnp_machine.specs.System.{SystemState, Input, AsksToSend, AsksForEcho, FrameComes, MomentComes, IsRestarted, IsCongested, IsChanged, Output, Transmits, SendsEsis, Notes, Effect, then_does}
use Rattle.clnp_machine.specs.Esis.{esis_comes, forgets, says_hello}
use Rattle.clnp_machine.specs.Local.{Action, Sends, Tells, Deed, discard, made_in, make, receive, requests_echo, tick}
use Rattle.clnp_machine.specs.Step.{Hop, effect_of, first_sent, forwarded, loss_at, octets_come, outputs_of, packet_comes, passes_by, responds, sent_on, step, transmissions, unit_hop, Way, hop_by, redirects, options_behind}
use Rattle.clnp_machine.specs.EveryStep.{GoesOnFrom, GoesOnOrIsReported, IsOfHellos, IsRangeOf, OnlyHellos, SendsOn, SendsRangesOf, SendsRangesOrGoesOn}
use Rattle.clnp_machine.proofs.Asked.{discard_makes}
use Rattle.clnp_machine.proofs.Hellos.{only_comes, only_forgets, only_responds, only_says_hello, only_then}
use Rattle.clnp_machine.specs.EditLaws.{EditLaws}
use Rattle.clnp_machine.proofs.Behind.{behind_form}
use Rattle.clnp_machine.proofs.Editing.{behind_edited}
use Rattle.clnp_machine.proofs.Passing.{going, packet_does, passing_does, redirects_are}

-- a range of so many places
abbrev Within : ℕ → Range → Type 0
Within len range = range.from + range.len ≤ len

within_from : (room len first count : ℕ) → (first + count) * room < len + room
    → AllByRecursion (Within len) (map (nth_range room len) (range_with_len first count))
within_from room len first zero h = tt
within_from room len first (suc count) h =
    (omega arith, within_from room len (first + 1) count (omega arith))

none_within : (len first count : ℕ) → AllByRecursion (Within len) (map (nth_range 0 len) (range_with_len first count))
none_within len first zero = tt
none_within len first (suc count) = (omega arith, none_within len (first + 1) count)

ranges_within : (room len : ℕ) → AllByRecursion (Within len) (ranges room len)
ranges_within zero len = none_within len 0 ((len + zero - 1) / zero)
ranges_within (suc room) len = within_from (suc room) len 0 ((len + suc room - 1) / suc room) (omega arith)

-- a packet that is part of another: a range of it, and all of it where its unit may not be segmented
pub record IsPartOf (p q : Packet) : Type 0 where
  pub unit : q.unit ≡ p.unit
  pub options : q.options ≡ p.options
  pub lifetime : q.lifetime ≡ p.lifetime
  pub hops : q.hops ≡ p.hops
  pub from : p.offset ≤ q.offset
  pub to : q.offset + q.length ≤ p.offset + p.length
  pub whole : p.unit.identifier ≡ None → (q.offset ≡ p.offset) × (q.length ≡ p.length)

module _ (p : Packet) where
  itself_is_part : IsPartOf p p
  itself_is_part =
      record { unit = refl; options = refl; lifetime = refl; hops = refl; from = omega arith; to = omega arith; whole = λ none. (refl, refl) }

  piece_is_part : (identifier : ℕ) → p.unit.identifier ≡ Some identifier → (range : Range) → Within p.length range → IsPartOf p (piece_of p range)
  piece_is_part identifier identified range within = record {
    unit = refl;
    options = refl;
    lifetime = refl;
    hops = refl;
    from = omega arith;
    to = omega arith;
    whole = λ none. absurd (cc);
  }

  each_piece : (identifier : ℕ) → p.unit.identifier ≡ Some identifier → (given : List Range) → AllByRecursion (Within p.length) given
      → AllByRecursion (IsPartOf p) (map (piece_of p) given)
  each_piece identifier identified given within =
      AllByRecursion-mapped (Within p.length) (IsPartOf p) (piece_of p) given (piece_is_part identifier identified) within

  -- what a packet is cut into
  pub cut_is_parts : (mtu : ℕ) (given : List Packet) → cut p mtu ≡ Some given → AllByRecursion (IsPartOf p) given
  cut_is_parts mtu given gives = go (nat_le (length (wire p)) mtu) p.unit.identifier refl gives
    where
      go : (one : Bool) (identifier : Option ℕ) → p.unit.identifier ≡ identifier
          → (if one then Some (p ∷ []) else option_map (λ i. pieces p mtu) identifier) ≡ Some given → AllByRecursion (IsPartOf p) given
      go true identifier e is =
          let same : (p ∷ []) ≡ given = cc in
          subst (AllByRecursion (IsPartOf p)) same (itself_is_part, tt)
      go false None e is = absurd (cc)
      go false (Some identifier) e is =
          let same : pieces p mtu ≡ given = cc in
          subst (AllByRecursion (IsPartOf p)) same
          (each_piece identifier e (ranges (data_room (header_length (value_of p)) mtu) p.length) (ranges_within (data_room (header_length (value_of p)) mtu) p.length))

module _ (laws : EditLaws) (units : List DataUnit) (u : DataUnit) (made : Contains units u) where
  part_is_range : (q : Packet) → IsPartOf (whole_packet u) q → IsRangeOf units q
  part_is_range q h =
      let same : q.unit ≡ u = h.unit in
      let lifetime : q.lifetime ≡ u.lifetime = h.lifetime in
      let hops : q.hops ≡ 0 = h.hops in
      let to : q.offset + q.length ≤ 0 + length u.octets = h.to in
      record {
        unit = subst (Contains units) (sym same) made;
        options = subst (λ (o : List Parameter). HaveOneForm q.options o) (h.options ∙ ap (λ (v : DataUnit). v.options) (sym same)) (laws.form.same q.options);
        edits = ([], h.options ∙ ap (λ (v : DataUnit). v.options) (sym same));
        lifetime = rw same (omega arith);
        within = rw same (omega arith);
        whole = rw same h.whole;
      }

  cut_is_ranges : (mtu : ℕ) (given : List Packet) → cut (whole_packet u) mtu ≡ Some given → AllByRecursion (IsRangeOf units) given
  cut_is_ranges mtu given gives =
      AllByRecursion-implies (IsPartOf (whole_packet u)) (IsRangeOf units) part_is_range given (cut_is_parts (whole_packet u) mtu given gives)

  each_transmitted : (hop : Hop) (packets : List Packet) → AllByRecursion (IsRangeOf units) packets
      → AllByRecursion (SendsRangesOf units) (map (λ packet. Transmits hop.port hop.target packet) packets)
  each_transmitted hop [] h = tt
  each_transmitted hop (packet ∷ packets) h = (h.0, each_transmitted hop packets h.1)

  transmitted : (hop : Hop) (found : Option (List Packet)) → ((packets : List Packet) → found ≡ Some packets → AllByRecursion (IsRangeOf units) packets)
      → AllByRecursion (SendsRangesOf units) (transmissions hop found)
  transmitted hop None h = (tt, tt)
  transmitted hop (Some packets) h = each_transmitted hop packets (h packets refl)

  sent_is_ranges : (hop : Hop) (port : Option PortConfig) → AllByRecursion (SendsRangesOf units) (sent_on hop port u)
  sent_is_ranges hop None = (tt, tt)
  sent_is_ranges hop (Some port) = transmitted hop (cut (whole_packet u) port.mtu) (λ packets gives. cut_is_ranges port.mtu packets gives)

  first_sent_is_ranges : (s : SystemState) (hop : Option Hop) → AllByRecursion (SendsRangesOf units) (first_sent s u hop)
  first_sent_is_ranges s None = (tt, tt)
  first_sent_is_ranges s (Some hop) = sent_is_ranges hop (slice_get s.attached.ports hop.port)

pub range_later : (units more : List DataUnit) (p : Packet) → IsRangeOf more p → IsRangeOf (units ++ more) p
range_later units more p h = record {
  unit = Contains-append_right units more p.unit h.unit;
  options = h.options;
  edits = h.edits;
  lifetime = h.lifetime;
  within = h.within;
  whole = h.whole;
}

sends_later : (units more : List DataUnit) (output : Output) → SendsRangesOf more output → SendsRangesOf (units ++ more) output
sends_later units more (Transmits port target packet) h = range_later units more packet h
sends_later units more (SendsEsis port target value) h = tt
sends_later units more (Notes note) h = tt

-- all that is sent is ranges of the units that are made
pub sends_ranges : EditLaws → (s : SystemState) (actions : List Action) → AllByRecursion (SendsRangesOf (made_in actions)) (flat_map (outputs_of s) actions)
sends_ranges laws s [] = tt
sends_ranges laws s (Tells told ∷ actions) = (tt, sends_ranges laws s actions)
sends_ranges laws s (Sends u ∷ actions) =
    AllByRecursion-append (SendsRangesOf (u ∷ made_in actions)) (first_sent s u (unit_hop s u)) (flat_map (outputs_of s) actions)
    (first_sent_is_ranges laws (u ∷ made_in actions) u (0, omega arith, refl) s (unit_hop s u))
    (AllByRecursion-implies (SendsRangesOf (made_in actions)) (SendsRangesOf (u ∷ made_in actions)) (sends_later (u ∷ []) (made_in actions))
    (flat_map (outputs_of s) actions) (sends_ranges laws s actions))

pub range_sooner : (units more : List DataUnit) (p : Packet) → IsRangeOf units p → IsRangeOf (units ++ more) p
range_sooner units more p h = record {
  unit = Contains-append_left units more p.unit h.unit;
  options = h.options;
  edits = h.edits;
  lifetime = h.lifetime;
  within = h.within;
  whole = h.whole;
}

-- Packets that go on.

module _ (laws : EditLaws) (s : SystemState) (p : Packet) where
  pub part_goes_on : (number : ℕ) (port : PortConfig) → slice_get s.attached.ports number ≡ Some port → loss_at port < p.lifetime → (q : Packet)
      → IsPartOf (forwarded p (loss_at port) (options_behind s p.options)) q → GoesOnFrom s number p q
  part_goes_on number port there alive q h =
      let same : q.unit ≡ p.unit = h.unit in
      let lifetime : q.lifetime ≡ p.lifetime - loss_at port = h.lifetime in
      record {
        port = port;
        there = there;
        unit = same;
        options = λ carriable. subst (λ (o : List Parameter). HaveOneForm o p.options) (sym h.options) (behind_form laws s p.options carriable.pdu.options);
        edits = let behind = behind_edited s p.options in (behind.0, h.options ∙ behind.1);
        hops = h.hops;
        lifetime = omega arith;
        alive = omega arith;
        from = h.from;
        to = h.to;
        whole = λ none. h.whole (ap (λ (u : DataUnit). u.identifier) (sym same) ∙ none);
      }

  pub onward : (came : Neighbour) (way : Way) (port : PortConfig) (given : List Packet) → slice_get s.attached.ports way.neighbour.port ≡ Some port
      → loss_at port < p.lifetime → cut (forwarded p (loss_at port) (options_behind s p.options)) port.mtu ≡ Some given
      → AllByRecursion (SendsOn s p) (going s came p (options_behind s p.options) way given)
  onward came way port given there alive gives =
      let hop = hop_by way in
      let options = options_behind s p.options in
      AllByRecursion-append (SendsOn s p) (map (λ piece. Transmits hop.port hop.target piece) given) (redirects s came p options way)
      (AllByRecursion-mapped (IsPartOf (forwarded p (loss_at port) options)) (SendsOn s p) (λ piece. Transmits hop.port hop.target piece) given
      (part_goes_on hop.port port there alive) (cut_is_parts (forwarded p (loss_at port) options) port.mtu given gives))
      (redirects_are (SendsOn s p) s came p options way (λ to. tt))

  -- what comes of a packet for another address goes on, or its discard is reported
  pub passing_sends : (came : Neighbour) (following : List ℕ) → GoesOnOrIsReported s p (wire p ++ following) (passes_by s.configuration.role s came p following)
  passing_sends came following =
      passing_does (GoesOnOrIsReported s p (wire p ++ following)) s came p following
      (λ reason of_none.
      let deed = discard s (Labelled p following) reason 0 in
      inr (sends_ranges laws deed.after deed.actions, discard_makes s (Labelled p following) reason 0))
      (λ router way port given there alive gives known. inl (onward came way port given there alive gives, refl)) (inl ((tt, tt), refl))
      s.configuration.role refl

-- All that is sent in a step.

module _ (laws : EditLaws) (s : SystemState) (input : Input) where
  abbrev pub SendsSuch : List DataUnit → Output → Type 0
  SendsSuch units = SendsRangesOrGoesOn s input units

  made_such : (units : List DataUnit) (output : Output) → SendsRangesOf units output → SendsSuch units output
  made_such units (Transmits port target packet) h = inl h
  made_such units (SendsEsis port target value) h = tt
  made_such units (Notes note) h = tt

  such_sooner : (units more : List DataUnit) (output : Output) → SendsSuch units output → SendsSuch (units ++ more) output
  such_sooner units more (Transmits port target packet) (inl made) = inl (range_sooner units more packet made)
  such_sooner units more (Transmits port target packet) (inr on) = inr on
  such_sooner units more (SendsEsis port target value) h = tt
  such_sooner units more (Notes note) h = tt

  hello_such : (units : List DataUnit) (output : Output) → IsOfHellos output → SendsSuch units output
  hello_such units (Transmits port target packet) h = absurd h
  hello_such units (SendsEsis port target value) h = tt
  hello_such units (Notes note) h = tt

  hellos_such : (t : SystemState) (units : List DataUnit) (effect : Effect) → OnlyHellos t effect → AllByRecursion (SendsSuch units) effect.outputs
  hellos_such t units effect h = AllByRecursion-implies IsOfHellos (SendsSuch units) (hello_such units) effect.outputs h.outputs

  abbrev pub SendsSuchOf : Effect → Type 0
  SendsSuchOf effect = AllByRecursion (SendsSuch effect.units) effect.outputs

  deed_such : (deed : Deed) → SendsSuchOf (effect_of deed)
  deed_such deed =
      AllByRecursion-implies (SendsRangesOf (made_in deed.actions)) (SendsSuch (made_in deed.actions)) (made_such (made_in deed.actions))
      (flat_map (outputs_of deed.after) deed.actions) (sends_ranges laws deed.after deed.actions)

  -- an effect, and then what is said and heard
  then_such : (effect : Effect) (next : SystemState → Effect) → SendsSuchOf effect → OnlyHellos effect.after (next effect.after) → SendsSuchOf (then_does effect next)
  then_such effect next h k =
      let more = (next effect.after).units in
      AllByRecursion-append (SendsSuch (effect.units ++ more)) effect.outputs (next effect.after).outputs
      (AllByRecursion-implies (SendsSuch effect.units) (SendsSuch (effect.units ++ more)) (such_sooner effect.units more) effect.outputs h)
      (hellos_such effect.after (effect.units ++ more) (next effect.after) k)

on_such : (s : SystemState) (at : ℕ) (sender : List ℕ) (to_group : Bool) (p : Packet) (following : List ℕ) (output : Output) → SendsOn s p output
    → SendsRangesOrGoesOn s (FrameComes at sender to_group (Labelled p following)) [] output
on_such s at sender to_group p following (Transmits port target packet) h = inr h
on_such s at sender to_group p following (SendsEsis port target value) h = tt
on_such s at sender to_group p following (Notes note) h = tt

packet_such : (laws : EditLaws) (s : SystemState) (at : ℕ) (sender : List ℕ) (to_group : Bool) (p : Packet) (following : List ℕ)
    → SendsSuchOf laws s (FrameComes at sender to_group (Labelled p following)) (packet_comes s (record { port = at; snpa = sender }) p following)
packet_such laws s at sender to_group p following =
    let input : Input = FrameComes at sender to_group (Labelled p following) in
    let came : Neighbour = record { port = at; snpa = sender } in
    let options = options_behind s p.options in
    packet_does (SendsSuchOf laws s input) s came p following (λ reason of_none. deed_such laws s input (discard s (Labelled p following) reason 0))
    (λ router way port given there alive gives known.
    AllByRecursion-implies (SendsOn s p) (SendsRangesOrGoesOn s input []) (on_such s at sender to_group p following)
    (going s came p options way given) (onward laws s p came way port given there alive gives))
    (tt, tt) (λ own. deed_such laws s input (receive s p following))

pub step_sends : EditLaws → (s : SystemState) (input : Input) → AllByRecursion (SendsRangesOrGoesOn s input (step s input).units) (step s input).outputs
step_sends laws s (AsksToSend from to octets ask) = deed_such laws s (AsksToSend from to octets ask) (make s Dt from to octets ask)
step_sends laws s (AsksForEcho from to octets) = deed_such laws s (AsksForEcho from to octets) (requests_echo s from to octets)
step_sends laws s (FrameComes port sender to_group (Labelled p following)) =
    let neighbour : Neighbour = record { port = port; snpa = sender } in
    then_such laws s (FrameComes port sender to_group (Labelled p following)) (packet_comes s neighbour p following) (λ t. responds t neighbour to_group p)
    (packet_such laws s port sender to_group p following) (only_responds (packet_comes s neighbour p following).after neighbour to_group p)
step_sends laws s (FrameComes port sender to_group (Esis value following)) =
    let neighbour : Neighbour = record { port = port; snpa = sender } in
    hellos_such laws s (FrameComes port sender to_group (Esis value following)) s (esis_comes s neighbour value).units (esis_comes s neighbour value)
    (only_comes s neighbour value)
step_sends laws s (FrameComes port sender to_group (Unlabelled octets)) = deed_such laws s (FrameComes port sender to_group (Unlabelled octets)) (octets_come s octets)
step_sends laws s (MomentComes now) =
    let ticked = (tick s now).after in
    then_such laws s (MomentComes now) (effect_of (tick s now)) (λ t. then_does (forgets s.moment t) says_hello) (deed_such laws s (MomentComes now) (tick s now))
    (only_then ticked (forgets s.moment ticked) says_hello (only_forgets s.moment ticked) (only_says_hello ticked))
step_sends laws s IsRestarted = (tt, tt)
step_sends laws s (IsCongested on) = (tt, tt)
step_sends laws s (IsChanged change) = tt
