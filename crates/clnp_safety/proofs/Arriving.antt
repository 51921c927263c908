-- What comes of a frame that carries a sound packet.
use Rattle.clnp_machine.proofs.ClnpBase.Lists.{AllByRecursion-append, AllByRecursion-both, AllByRecursion-find, AllByRecursion-implies, AllByRecursion-map_any}
use Rattle.clnp_machine.proofs.ClnpBase.Sums.{sum_filter}
use Rattle.std.proofs.Common.{◌≡◌, ◌∙◌, sym, ap, subst, refl, ℕ, ◌<◌, ◌≤◌, inl, inr, Bool, true, false, not, List, [], length, map, slice_get, Option, None, Some, arith}
use Rattle.std.specs.Prelude.{◌==◌, ◌&&◌, ◌||◌, is_none, nat_le}
use Rattle.std.specs.List.{AllByRecursion, find}
use Rattle.std.proofs.lemmas.Bool.{cases_Bool, eqb-false, true≢false}
use Rattle.std.proofs.lemmas.List.{append-nil}
use Rattle.clnp_machine.specs.Nsap.Address.{IsAddress}
use Rattle.clnp_machine.specs.ClnpOptions.Edits.{is_complete, target_of}
use Rattle.clnp_machine.specs.ClnpOptions.Parameter.{Parameter}
use Rattle.clnp_machine.specs.ClnpOptions.Reasons.{reason_code}
use Rattle.clnp_machine.specs.Pdus.declared.clnp_options.reasons.Reason.TheVariants.{Congestion}
use Rattle.clnp_machine.specs.Pdus.declared.pdu_header.kind.Kind.{Kind}
use Rattle.clnp_machine.specs.Pdus.declared.pdu_header.kind.Kind.TheVariants.{Dt, Er, Erq, Erp}
use Rattle.clnp_machine.specs.ClnpPlan.declared.note.Note.{Note}
use Rattle.clnp_machine.specs.ClnpPlan.declared.note.Note.TheVariants as note
use Rattle.clnp_machine.specs.ScenarioPlan.Plan.{IsFit, Plan}
use Rattle.clnp_machine.specs.Reassembly.Arrival.{data_len, same_key}
use Rattle.clnp_machine.specs.Reassembly.Buffer as buffer
use Rattle.clnp_machine.specs.Reassembly.Buffer.{Answer, Buffer, buffer_of, held, is_whole, size_of, without}
use Rattle.clnp_machine.specs.Unit.{DataUnit, IsCarriable, Packet, cut, value_of}
use Rattle.clnp_machine.specs.Content.{Content, IsCarried, Labelled, Esis, Unlabelled}
use Rattle.clnp_machine.specs.SystemTables.declared.esis_tables.fact.Neighbour.{Neighbour}
use Rattle.clnp_machine.specs.Esis.{esis_comes, is_silent, tells_of_itself}
use Rattle.clnp_machine.specs.System.{SystemState, Effect, FrameComes, Transmits, table_limits}
use Rattle.clnp_machine.specs.Local.{Deed, and_then, data_in, discard, echo_ask, hand_up, is_all, is_answer, is_own, octet_of, offer, offered, receive, takes_in, takes_reply, tells}
use Rattle.clnp_machine.specs.Step.{content_comes, discards, ends_at, forwarded, goes_on, goes_on_by, goes_on_way, hop_by, is_asked_for, is_named, is_redirected, loss_at, options_behind, packet_comes, passes_by, pieces_go_on, redirects, responds, towards, transmissions, way_of}
use Rattle.clnp_machine.specs.declared.way.Hop.{Hop}
use Rattle.clnp_machine.specs.declared.way.Way.{Way}
use Rattle.clnp_machine.specs.EveryStep.{IsRangeOf, KnowsAddresses, NotesOnly}
use Rattle.clnp_machine.specs.Told.{TellsNoInterference}
use Rattle.clnp_machine.specs.ClnpPlan.declared.config.PortConfig.{PortConfig}
use Rattle.clnp_machine.specs.ClnpPlan.declared.config.Role.{Role}
use Rattle.clnp_machine.specs.ClnpPlan.declared.config.Role.TheVariants.{Host, Router}
use Rattle.clnp_machine.specs.ClnpNetwork.LabelledNetwork.{LabelledNetwork}
use Rattle.clnp_machine.specs.ClnpNetwork.Run.{Entry}
use Rattle.clnp_machine.specs.ClnpNetwork.Safe.{ReportsStand}
use Rattle.clnp_safety.specs.Growth.{IsFront}
use Rattle.clnp_safety.specs.Invariant.{BufferIsSound, Carries, IsMadeOn, IsPending, SystemIsSound, UnitsAreSound, WorldIsSound}
use Rattle.clnp_safety.specs.StepLaws.{StepLaws}
use Rattle.clnp_safety.proofs.BufferOffers.{ComesInTime, IsLive, clashes_with_none, stay_live, unit_in, unit_sound}
use Rattle.clnp_safety.proofs.Deeds.{DeedIsSound, IsHonest, MayDo, discards_soundly, like_is_sound, make_soundly, tells_soundly, told_and_done, with_buffers}
use Rattle.clnp_safety.proofs.Founded.{reply_is_founded, report_is_founded}
use Rattle.clnp_safety.proofs.Hellos.{EffectIsSound, deed_is_sound, hellos_are_sound, then_hellos}
use Rattle.clnp_safety.proofs.Kept.{all_after, all_without, find_passes, others_with_kept, made_whole, none_whole-after}
use Rattle.clnp_safety.proofs.Joining.{joined_is_unit, whole_is_unit}
use Rattle.clnp_safety.proofs.Units.{range_sooner}

-- a packet in a frame comes in time to a system at a moment
abbrev pub ContentInTime : (plan : Plan) (units : List DataUnit) (here : ℕ) → Content → Type 0
ContentInTime plan units here (Labelled packet following) = ComesInTime plan units here packet
ContentInTime plan units here (Esis value following) = Unit {0}
ContentInTime plan units here (Unlabelled octets) = Unit {0}

pub later_range : (before units : List DataUnit) (p : Packet) → IsFront before units → IsRangeOf before p → IsRangeOf units p
later_range before units p front h = subst (λ us. IsRangeOf us p) (sym front.1) (range_sooner before front.0 p h)

-- a network that is sound before a move, and the units so far
module _ (laws : StepLaws) (plan : Plan) (fit : IsFit plan) (past : List Entry) (w : LabelledNetwork) (h : WorldIsSound plan past w) (stood : ReportsStand w) (units : List DataUnit)
    (front : IsFront w.units units) (made : UnitsAreSound plan past units) (place : ℕ) (s : SystemState)
    (sound : SystemIsSound plan units place s) (pending : AllByRecursion (IsPending past w.units place s.configuration.name) s.pending) where
  -- what a deed leaves is sound, and what it tells is honest
  abbrev Does : Deed → Type 0
  Does = DeedIsSound plan past w s.configuration.name units place

  -- and so is an effect
  abbrev Gives : Effect → Type 0
  Gives = EffectIsSound plan past w s.configuration.name units place

  may : MayDo plan units place s
  may = record { sound = sound; rest = made.rest }

  live_buffers : AllByRecursion (IsLive plan units s.moment) s.buffers
  live_buffers =
      AllByRecursion-both (BufferIsSound plan units) (λ (b : Buffer Packet). s.moment < b.deadline) (IsLive plan units s.moment) (λ b h k. record { sound = h; lasts = k })
      s.buffers sound.buffers sound.not_due

  with_live : (buffers : List (Buffer Packet)) → AllByRecursion (IsLive plan units s.moment) buffers
      → AllByRecursion (λ (b : Buffer Packet). is_whole b ≡ false) buffers → held buffers ≤ s.configuration.settings.budget
      → SystemIsSound plan units place (record s { buffers = buffers })
  with_live buffers live not_whole within =
      with_buffers plan units place s buffers s.count sound
      (AllByRecursion-implies (IsLive plan units s.moment) (BufferIsSound plan units) (λ b h. h.sound) buffers live)
      (AllByRecursion-implies (IsLive plan units s.moment) (λ (b : Buffer Packet). s.moment < b.deadline) (λ b h. h.lasts) buffers live) not_whole within

  module _ (p : Packet) (range : IsRangeOf w.units p) (carriable : IsCarriable p) where
    packet : IsRangeOf units p
    packet = later_range w.units units p front range

    discards_it : (t : SystemState) (reason : ℕ) → MayDo plan units place t → Does (discard t (Labelled p []) reason 0)
    discards_it t reason may = discards_soundly plan past w s.configuration.name units place t (Labelled p []) reason 0 may

    -- The data of its unit are handed up, once they are whole.
    module _ (own : is_own s p.unit.destination ≡ true) (buffers : List (Buffer Packet))
        (left : SystemIsSound plan units place (record s { buffers = buffers })) (options : List Parameter) where
      -- the system as it is then
      abbrev then : SystemState
      then = record s { buffers = buffers }

      may_then : MayDo plan units place then
      may_then = record { sound = left; rest = made.rest }

      takes_soundly : p.unit.kind ≡ Erp → (found : Option DataUnit)
          → ((request : DataUnit) → found ≡ Some request
          → IsPending past w.units place s.configuration.name request × (is_answer p.unit.source p.unit.destination p.unit.octets request ≡ true))
          → Does (takes_reply then p.unit.source p.unit.destination p.unit.octets found)
      takes_soundly erp None is = tells_soundly plan past w s.configuration.name units place then (note.Stray p.unit.source p.unit.destination) may_then tt
      takes_soundly erp (Some request) is =
          let taken = takes_reply then p.unit.source p.unit.destination p.unit.octets (Some request) in
          let it = is request refl in
          tells_soundly plan past w s.configuration.name units place taken.after (note.Echoed p.unit.source p.unit.destination request.number)
          (record {
            sound = like_is_sound plan units place then taken.after
                (record { place = refl; configuration = refl; attached = refl; hold = refl; moment = refl; identifiers = refl; buffers = refl; known = λ known. known }) left;
            rest = made.rest;
          })
          (reply_is_founded laws plan fit past w h stood p.unit range.unit place s sound.declared request it.0 erp it.1)

      hands_up : (kind : Kind) → p.unit.kind ≡ kind → Does (hand_up then kind p.unit.source p.unit.destination p.unit.octets options)
      hands_up Dt is =
          let it = unit_sound plan past w.units p.unit h.made range.unit in
          tells_soundly plan past w s.configuration.name units place then (note.Got p.unit.source p.unit.destination p.unit.octets) may_then
          (subst (λ kind. IsMadeOn plan past w.units kind p.unit) is it.founded)
      hands_up Er is =
          tells_soundly plan past w s.configuration.name units place then _ may_then
          (report_is_founded laws plan fit past w h stood p.unit range.unit place s sound.declared is own)
      hands_up Erq is =
          make_soundly plan past w s.configuration.name units place laws then Erp p.unit.destination p.unit.source p.unit.octets
          (echo_ask then p.unit.destination p.unit.source (length p.unit.octets) false) may_then
          (λ erp. subst (λ kind. IsMadeOn plan past w.units kind p.unit) is (unit_sound plan past w.units p.unit h.made range.unit).founded)
      hands_up Erp is =
          let answers = is_answer p.unit.source p.unit.destination p.unit.octets in
          takes_soundly is (find answers s.pending)
          (λ request found. (
            AllByRecursion-find (IsPending past w.units place s.configuration.name) answers s.pending request found pending,
            find_passes answers s.pending request found,
          ))

      -- octets that are its unit's are handed up
      pub hands_up_octets : (octets : List ℕ) → octets ≡ p.unit.octets → Does (hand_up then p.unit.kind p.unit.source p.unit.destination octets options)
      hands_up_octets octets same =
          subst (λ whole. Does (hand_up then p.unit.kind p.unit.source p.unit.destination whole options)) (sym same) (hands_up p.unit.kind refl)

    module _ (time : ComesInTime plan units s.moment p) (alive : 1 ≤ p.lifetime) (own : is_own s p.unit.destination ≡ true) where
      module _ (identifier : ℕ) (identified : p.unit.identifier ≡ Some identifier) where
        abbrev kept : List (Buffer Packet)
        kept = buffer.after (table_limits s) s.moment (offered p []) s.buffers

        kept_live : AllByRecursion (IsLive plan units s.moment) kept
        kept_live =
            all_after laws (table_limits s) s.moment (offered p []) (IsLive plan units s.moment)
            (stay_live laws plan fit past units made p packet carriable s.moment time identifier identified
            (table_limits s) sound.hold alive)
            s.buffers live_buffers

        kept_within : held kept ≤ s.configuration.settings.budget
        kept_within = laws.segments.within (table_limits s) s.moment (offered p []) s.buffers sound.budget

        is_held : buffer.answer (table_limits s) s.moment (offered p []) s.buffers ≡ buffer.Held
            → Does (takes_in s (Labelled p []) (offered p []) kept buffer.Held)
        is_held told =
            tells_soundly plan past w s.configuration.name units place (record s { buffers = kept }) _
            (record {
              sound = with_live kept kept_live
                  (none_whole-after (table_limits s) s.moment (offered p []) s.buffers sound.not_whole (λ whole. absurd (let e : buffer.Held ≡ buffer.Whole = sym told ∙ whole in cc)))
                  kept_within;
              rest = made.rest;
            })
            tt

        joined_data : (joined : Buffer Packet) → IsLive plan units s.moment joined → same_key joined.key (offered p []).key ≡ true → is_whole joined ≡ true
            → buffer.data_of octet_of joined ≡ p.unit.octets
        joined_data joined live same whole =
            let u = live.sound.unit in
            let it = unit_sound plan past units u made live.sound.made in
            let len : data_len joined.shape ≡ length u.octets = ap data_len live.sound.shape ∙ (let total = it.total in omega arith) in
            joined_is_unit units u it.first_position joined live.sound.kept len whole
            ∙ ap (λ (v : DataUnit). v.octets) (unit_in laws plan fit past units made p packet carriable s.moment time identifier identified joined live same)

        is_joined : buffer.answer (table_limits s) s.moment (offered p []) s.buffers ≡ buffer.Whole
            → Does (takes_in s (Labelled p []) (offered p []) kept buffer.Whole)
        is_joined told =
            let whole = made_whole (table_limits s) s.moment (offered p []) s.buffers told in
            let key = (offered p []).key in
            let has_key : Buffer Packet → Bool = λ b. same_key b.key key in
            let live = AllByRecursion-find (IsLive plan units s.moment) has_key kept whole.buffer whole.found kept_live in
            hands_up_octets own (without key kept)
            (with_live (without key kept) (all_without (IsLive plan units s.moment) key kept kept_live)
            (subst (λ l. AllByRecursion (λ (b : Buffer Packet). is_whole b ≡ false) (without key l)) (sym whole.after_is)
            (others_with_kept laws (table_limits s) s.moment (offered p []) (λ (b : Buffer Packet). is_whole b ≡ false) s.buffers sound.not_whole))
            (let less = sum_filter size_of (λ (b : Buffer Packet). not (same_key b.key key)) kept in let within = kept_within in omega arith))
            p.options (data_in (buffer_of key kept))
            (ap data_in whole.found ∙ joined_data whole.buffer live (find_passes has_key kept whole.buffer whole.found) whole.whole)

        -- something is told, and the segment is discarded
        tells_and_discards : (told : Note) (reason : ℕ) → IsHonest plan past w s.configuration.name told
            → Does (and_then (tells s told) (λ t. discard t (Labelled p []) reason 0))
        tells_and_discards told reason honest =
            told_and_done plan past w s.configuration.name units place s told (λ t. discard t (Labelled p []) reason 0) honest (discards_it s reason may)

        taken : (told : Answer) → buffer.answer (table_limits s) s.moment (offered p []) s.buffers ≡ told
            → Does (takes_in s (Labelled p []) (offered p []) kept told)
        taken buffer.Held told = is_held told
        taken buffer.Whole told = is_joined told
        taken (buffer.Interference there other) told =
            absurd (subst TellsNoInterference told (laws.segments.apart (table_limits s) s.moment (offered p []) s.buffers
            (clashes_with_none laws plan fit past units made p packet carriable s.moment time identifier identified
            s.buffers live_buffers)))
        taken buffer.Repeat told = tells_soundly plan past w s.configuration.name units place s _ may tt
        taken (buffer.NoSlot live) told = tells_and_discards (note.NoSlot live) (reason_code Congestion) tt
        taken (buffer.Crowded held size) told = tells_and_discards (note.Crowded held size) (reason_code Congestion) tt
        taken (buffer.Many segments) told = tells_and_discards (note.Many segments) (reason_code Congestion) tt

      offer_is_sound : (identifier : Option ℕ) → p.unit.identifier ≡ identifier → is_all p ≡ false → Does (offer s (Labelled p []) (offered p []))
      offer_is_sound None is part =
          absurd (true≢false (sym (ap (λ i. is_none i || ((p.offset == 0) && not (value_of p).more)) is) ∙ part))
      offer_is_sound (Some identifier) is part =
          taken identifier is (buffer.answer (table_limits s) s.moment (offered p []) s.buffers) refl

      receive_is_sound : Does (receive s p [])
      receive_is_sound =
          let it = unit_sound plan past units p.unit made packet.unit in
          elim (cases_Bool (is_all p)) [
            | inl all ↦ rw all (hands_up_octets own s.buffers sound p.options (value_of p).body (whole_is_unit laws units p packet it.first_position it.total all))
            | inr part ↦ rw part (offer_is_sound p.unit.identifier refl part)
          ]

    -- A packet for another address: it is noted or discarded, or goes on, and the system stays as it is.

    is_discarded : (reason : ℕ) → Gives (discards s p [] reason)
    is_discarded reason =
        deed_is_sound plan past w s.configuration.name units place laws (discard s (Labelled p []) reason 0) (discards_it s reason may)

    pieces_note_nothing : (hop : Hop) (pieces : List Packet)
        → AllByRecursion (NotesOnly (IsHonest plan past w s.configuration.name)) (map (λ piece. Transmits hop.port hop.target piece) pieces)
    pieces_note_nothing hop pieces =
        AllByRecursion-map_any (NotesOnly (IsHonest plan past w s.configuration.name)) (λ piece. Transmits hop.port hop.target piece) pieces (λ piece. tt)

    -- with the options that the router leaves
    module _ (came : Neighbour) (options : List Parameter) where
      redirects_note_nothing : (way : Way) → AllByRecursion (NotesOnly (IsHonest plan past w s.configuration.name)) (redirects s came p options way)
      redirects_note_nothing way = elim (cases_Bool (is_redirected s came p options way)) [ inl wanted ↦ rw wanted (tt, tt) | inr none ↦ rw none tt ]

      pieces_soundly : (way : Way) (pieces : Option (List Packet)) → Gives (pieces_go_on s came p [] options way pieces)
      pieces_soundly way None = is_discarded _
      pieces_soundly way (Some pieces) = record {
        after = subst (λ us. SystemIsSound plan us place s) (sym (append-nil units)) sound;
        rest = (subst (λ us. MayDo plan us place s) (sym (append-nil units)) may).rest;
        replies = tt;
        notes = AllByRecursion-append (NotesOnly (IsHonest plan past w s.configuration.name)) (transmissions (hop_by way) (Some pieces)) (redirects s came p options way)
            (pieces_note_nothing (hop_by way) pieces) (redirects_note_nothing way);
      }

      goes_on_by_soundly : (way : Way) (port : Option PortConfig) → Gives (goes_on_by s came p [] options way port)
      goes_on_by_soundly way None = is_discarded _
      goes_on_by_soundly way (Some port) =
          elim (cases_Bool (nat_le p.lifetime (loss_at port))) [
            | inl over ↦ rw over (is_discarded _)
            | inr lives ↦ rw lives (pieces_soundly way (cut (forwarded p (loss_at port) options) port.mtu))
          ]

      goes_on_way_soundly : (way : Option Way) → Gives (goes_on_way s came p [] options way)
      goes_on_way_soundly None = is_discarded _
      goes_on_way_soundly (Some way) =
          elim (cases_Bool (is_complete options && not (ends_at (towards p.unit.destination (target_of options)) way.title))) [
            | inl off ↦ rw off (is_discarded _)
            | inr there ↦ rw there (goes_on_by_soundly way (slice_get s.attached.ports way.neighbour.port))
          ]

    goes_on_soundly : (came : Neighbour) → Gives (goes_on s came p [])
    goes_on_soundly came =
        let options = options_behind s p.options in
        elim (cases_Bool (is_complete p.options && not (is_named s (target_of p.options)))) [
          | inl off ↦ rw off (is_discarded _)
          | inr named ↦ rw named (goes_on_way_soundly came options (way_of s (towards p.unit.destination (target_of options))))
        ]

    passes_soundly : (role : Role) (came : Neighbour) → Gives (passes_by role s came p [])
    passes_soundly Host came =
        deed_is_sound plan past w s.configuration.name units place laws _ (tells_soundly plan past w s.configuration.name units place s (note.NotMine p.unit.destination) may tt)
    passes_soundly Router came = goes_on_soundly came

    packet_is_sound : (came : Neighbour) → ComesInTime plan units s.moment p → Gives (packet_comes s came p [])
    packet_is_sound came time =
        elim (cases_Bool (p.lifetime == 0)) [
          | inl over ↦ rw over (is_discarded _)
          | inr lives ↦
              rw lives
              (elim (cases_Bool (is_own s p.unit.destination)) [
                | inl own ↦
                    rw own
                    (deed_is_sound plan past w s.configuration.name units place laws (receive s p [])
                    (receive_is_sound time (let some = eqb-false p.lifetime 0 lives in omega arith) own))
                | inr other ↦ rw other (passes_soundly s.configuration.role came)
              ])
        ]

  -- a hello to who asked for the system leaves what was heard
  told_knows : (t : SystemState) (port : ℕ) (snpa : List ℕ) → KnowsAddresses t → KnowsAddresses (tells_of_itself t port snpa).after
  told_knows t port snpa known = elim (cases_Bool (is_silent t)) [ inl silent ↦ rw silent known | inr says ↦ rw says known ]

  response_knows : (t : SystemState) (from : Neighbour) (to_group : Bool) (p : Packet) → KnowsAddresses t → KnowsAddresses (responds t from to_group p).after
  response_knows t from to_group p known =
      elim (cases_Bool (is_asked_for t.configuration.role t to_group p)) [
        | inl asked ↦ rw asked (told_knows t from.port from.snpa known)
        | inr other ↦ rw other known
      ]

  pub arrival_is_sound : (from : Neighbour) (to_group : Bool) (content : Content) → IsAddress from.snpa → Carries (IsRangeOf w.units) content
      → IsCarried content → ContentInTime plan units s.moment content → Gives (content_comes s from to_group content)
  arrival_is_sound from to_group (Labelled p following) sender carries carried time =
      let comes = packet_comes s from p following in
      then_hellos plan past w s.configuration.name units place comes (λ t. responds t from to_group p)
      (subst (λ rest. Gives (packet_comes s from p rest)) (sym carries.1) (packet_is_sound p carries.0 carried from time))
      (laws.hellos.answers comes.after from to_group p) (response_knows comes.after from to_group p)
  arrival_is_sound from to_group (Esis value following) sender carries carried time =
      hellos_are_sound plan past w s.configuration.name units place s (esis_comes s from value) (laws.hellos.comes s from value)
      (laws.steps.known s (FrameComes from.port from.snpa to_group (Esis value following)) (sender, carried)) may
  arrival_is_sound from to_group (Unlabelled octets) sender carries carried time = absurd carries
