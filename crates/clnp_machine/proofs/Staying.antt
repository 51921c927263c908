-- Segments that are kept stay, or are told of.
use Rattle.std.proofs.Common.{◌≡◌, refl, sym, ap, subst, ℕ, ◌⊎◌, inl, inr, Bool, true, false, not, List, [], ◌∷◌, ◌++◌, Option, None, Some, Contains, length, arith}
use Rattle.std.specs.Prelude.{if◌then◌else◌, slice_get}
use Rattle.std.specs.List.{AllByRecursion, find, flat_map}
use Rattle.std.proofs.lemmas.Bool.{cases_Bool, cond_both, not-false}
use Rattle.std.proofs.lemmas.List.Elements.{Contains-append_left, Contains-append_right}
use Rattle.clnp_plan.proofs.ClnpBase.Choices.{one_of}
use Rattle.clnp_plan.proofs.ClnpBase.Lists.{AllByRecursion-any, AllByRecursion-contains, AllByRecursion-front, AllByRecursion-implies}
use Rattle.clnp_plan.specs.ClnpOptions.Parameter.{Parameter}
use Rattle.clnp_plan.specs.Pdus.declared.pdu_header.kind.Kind.{Kind}
use Rattle.clnp_plan.specs.Pdus.declared.pdu_header.kind.Kind.TheVariants.{Dt, Er, Erq, Erp}
use Rattle.clnp_plan.specs.Configuration.{IsPort}
use Rattle.clnp_plan.specs.SystemTables.declared.esis_tables.fact.Neighbour.{Neighbour}
use Rattle.clnp_plan.specs.declared.ask.Ask.{Ask}
use Rattle.clnp_plan.specs.declared.note.Note.{Note}
use Rattle.clnp_plan.specs.declared.note.Note.TheVariants.{Expired}
use Rattle.system_tables.specs.declared.reassembly.table.TableLimits.{TableLimits}
use Rattle.system_tables.specs.Reassembly.Arrival.{Arrival, are_covered, same_key}
use Rattle.system_tables.specs.Reassembly.Buffer as buffer
use Rattle.system_tables.specs.Reassembly.Buffer.{Answer, Buffer, answer_of, buffer_of, buffers_of, is_whole_in, kept_in, refusal, with_kept, without}
use Rattle.system_tables.proofs.ReassemblyFacts.Shared.{same_key-refl}
use Rattle.clnp_machine.specs.Unit.{DataUnit, Packet, value_of}
use Rattle.clnp_machine.specs.Content.{Content, Esis, Labelled, Unlabelled, frame_of}
use Rattle.clnp_machine.specs.System.{SystemState, Input, AsksToSend, AsksForEcho, FrameComes, MomentComes, IsRestarted, IsCongested, IsChanged, Notes, Effect, table_limits, then_does}
use Rattle.clnp_machine.specs.Esis.{forgets, says_hello}
use Rattle.clnp_machine.specs.Local.{Deed, Tells, at_moment, data_in, discard, echo_ask, hand_up, is_all, is_answer, make, offer, offered, refusal as why_unmade, takes_in, takes_reply, tick, unit_of, unless_refused}
use Rattle.clnp_machine.specs.Step.{effect_of, outputs_of, packet_comes, step}
use Rattle.clnp_machine.specs.EveryStep.{segments_in}
use Rattle.clnp_machine.specs.Whereabouts.{MakesWhole, SegmentsStayOrAreTold, StaysOrIsTold, TellsOfUnit}
use Rattle.clnp_machine.proofs.Answering.{octets_do}
use Rattle.clnp_machine.proofs.Ending.{StaysOrEnds, buffers_kept, each_passes_or_not, each_stays_or_ends}
use Rattle.clnp_machine.proofs.Fates.{MayRefuse, ends_with_hellos, refusal_may, reports_keep, tells_of, whole_with}
use Rattle.clnp_machine.proofs.Hellos.{only_comes, only_responds}
use Rattle.clnp_machine.proofs.Kept.{all_contained}
use Rattle.clnp_machine.proofs.Passing.{packet_does}

-- Where the buffers are as they were.

all_still : {P : Buffer Packet → Type 0} (before after : List (Buffer Packet)) → ((b : Buffer Packet) → Contains after b → P b) → after ≡ before
    → AllByRecursion P before
all_still {P} before after still same =
    AllByRecursion-implies (Contains before) P (λ b there. still b (subst (λ (l : List (Buffer Packet)). Contains l b) (sym same) there)) before
    (all_contained before)

unless_keeps : (s : SystemState) (u : DataUnit) (refused : Option Note) → (unless_refused refused s u).after.buffers ≡ s.buffers
unless_keeps s u None = refl
unless_keeps s u (Some told) = refl

pub make_keeps : (s : SystemState) (kind : Kind) (from to octets : List ℕ) (ask : Ask) → (make s kind from to octets ask).after.buffers ≡ s.buffers
make_keeps s kind from to octets ask = unless_keeps s (unit_of s kind from to octets ask) (why_unmade s (unit_of s kind from to octets ask))

reply_keeps : (s : SystemState) (from to octets : List ℕ) (found : Option DataUnit) → (takes_reply s from to octets found).after.buffers ≡ s.buffers
reply_keeps s from to octets None = refl
reply_keeps s from to octets (Some request) = refl

pub hand_up_keeps : (s : SystemState) (kind : Kind) (from to octets : List ℕ) (options : List Parameter)
    → (hand_up s kind from to octets options).after.buffers ≡ s.buffers
hand_up_keeps s Dt from to octets options = refl
hand_up_keeps s Er from to octets options = refl
hand_up_keeps s Erq from to octets options = make_keeps s Erp to from octets (echo_ask s to from (length octets) false)
hand_up_keeps s Erp from to octets options = reply_keeps s from to octets (find (is_answer from to octets) s.pending)

pub discard_keeps : (s : SystemState) (frame : Content) (reason place : ℕ) → (discard s frame reason place).after.buffers ≡ s.buffers
discard_keeps s frame reason place = reports_keep s (frame_of frame) reason place (slice_get s.configuration.addresses 0)

-- Where a segment is kept.

module _ (limits : TableLimits) (moment : ℕ) (arrival : Arrival Packet) where
  -- a buffer stays, or has the segment besides
  abbrev StaysOrGains : List (Buffer Packet) → Buffer Packet → Type 0
  StaysOrGains after b =
      Contains after b ⊎ ((same_key b.key arrival.key ≡ true) × Contains after (record b { kept = b.kept ++ arrival ∷ [] }))

  one_more : (first : Buffer Packet) (after : List (Buffer Packet)) (b : Buffer Packet) → StaysOrGains after b → StaysOrGains (first ∷ after) b
  one_more first after b (inl there) = inl (Contains-append_right (first ∷ []) after b there)
  one_more first after b (inr gains) =
      inr (gains.0, Contains-append_right (first ∷ []) after (record b { kept = b.kept ++ arrival ∷ [] }) gains.1)

  stay_with : (buffers : List (Buffer Packet)) → AllByRecursion (StaysOrGains (with_kept limits moment arrival buffers)) buffers
  stay_with [] = tt
  stay_with (b ∷ others) =
      let more : Buffer Packet = record b { kept = b.kept ++ arrival ∷ [] } in
      let behind = with_kept limits moment arrival others in
      cond_both (same_key b.key arrival.key) (more ∷ others) (b ∷ behind) (λ after. AllByRecursion (StaysOrGains after) (b ∷ others))
      (λ same. (
        inr (same, (0, omega arith, refl)),
        AllByRecursion-implies (Contains others) (StaysOrGains (more ∷ others)) (λ o there. one_more more others o (inl there)) others (all_contained others),
      ))
      (λ other. (
        inl (0, omega arith, refl),
        AllByRecursion-implies (StaysOrGains behind) (StaysOrGains (b ∷ behind)) (one_more b behind) others (stay_with others),
      ))

  without_with : (buffers : List (Buffer Packet)) → without arrival.key (with_kept limits moment arrival buffers) ≡ without arrival.key buffers
  without_with [] = rw (same_key-refl arrival.key) refl
  without_with (b ∷ others) =
      elim (cases_Bool (same_key b.key arrival.key)) [
        | inl same ↦ rw (same, same) refl
        | inr other ↦ rw (other, other) (ap (λ (rest : List (Buffer Packet)). b ∷ rest) (without_with others))
      ]

  -- where its unit is whole, the buffers of other keys stay
  stay_without : (buffers : List (Buffer Packet))
      → AllByRecursion (λ b. Contains (without arrival.key (with_kept limits moment arrival buffers)) b ⊎ (same_key b.key arrival.key ≡ true)) buffers
  stay_without buffers =
      let rest = without arrival.key (with_kept limits moment arrival buffers) in
      each_passes_or_not (λ (b : Buffer Packet). not (same_key b.key arrival.key)) (λ b. Contains rest b ⊎ (same_key b.key arrival.key ≡ true)) (Contains rest)
      (λ b passes there. inl there) (λ b fails. inr (not-false (same_key b.key arrival.key) fails)) buffers
      (subst (λ (l : List (Buffer Packet)). AllByRecursion (Contains l) (without arrival.key buffers)) (sym (without_with buffers))
      (all_contained (without arrival.key buffers)))

-- Where a packet comes.

-- what is so of a buffer once a packet came
abbrev StaysBehind : SystemState → Packet → (following : List ℕ) → Effect → Buffer Packet → Type 0
StaysBehind s p following effect b =
    StaysOrGains (table_limits s) s.moment (offered p following) effect.after.buffers b
    ⊎ ((same_key b.key (offered p following).key ≡ true)
    × ((octets : List ℕ) × MakesWhole s.buffers (offered p following) octets × TellsOfUnit s p.unit.kind p.unit.source p.unit.destination octets effect))

module _ (s : SystemState) (each : AllByRecursion IsPort s.attached.ports) (p : Packet) (following : List ℕ) where
  abbrev Behind : Effect → Type 0
  Behind effect = AllByRecursion (StaysBehind s p following effect) s.buffers

  behind_still : (effect : Effect) → effect.after.buffers ≡ s.buffers → Behind effect
  behind_still effect same = all_still s.buffers effect.after.buffers (λ b there. inl (inl there)) same

  abbrev arrival : Arrival Packet
  arrival = offered p following

  abbrev later : List (Buffer Packet)
  later = with_kept (table_limits s) s.moment arrival s.buffers

  behind_kept : refusal (table_limits s) arrival s.buffers ≡ None → (whole : Bool) → is_whole_in (buffer_of arrival.key later) ≡ whole
      → Behind (effect_of (takes_in s (Labelled p following) arrival later (if whole then buffer.Whole else buffer.Held)))
  behind_kept none false e =
      AllByRecursion-implies (StaysOrGains (table_limits s) s.moment arrival later)
      (StaysBehind s p following (effect_of (takes_in s (Labelled p following) arrival later buffer.Held))) (λ b h. inl h) s.buffers
      (stay_with (table_limits s) s.moment arrival s.buffers)
  behind_kept none true e =
      let octets = data_in (buffer_of arrival.key later) in
      let rest = without arrival.key later in
      let t : SystemState = record s { buffers = rest } in
      let deed = hand_up t p.unit.kind p.unit.source p.unit.destination octets p.options in
      let same : deed.after.buffers ≡ rest = hand_up_keeps t p.unit.kind p.unit.source p.unit.destination octets p.options in
      AllByRecursion-implies (λ (b : Buffer Packet). Contains rest b ⊎ (same_key b.key arrival.key ≡ true))
      (StaysBehind s p following (effect_of deed))
      (λ b h. elim h [
        | inl there ↦ inl (inl (subst (λ (l : List (Buffer Packet)). Contains l b) (sym same) there))
        | inr key ↦ inr (
          key,
          (
            octets,
            whole_with (table_limits s) s.moment arrival s.buffers none e,
            tells_of s each rest p.unit.kind p.unit.source p.unit.destination octets p.options,
          ),
        )
      ]) s.buffers (stay_without (table_limits s) s.moment arrival s.buffers)

  behind_refusal : (refused : Option Answer) → refusal (table_limits s) arrival s.buffers ≡ refused
      → MayRefuse (are_covered (kept_in (buffer_of arrival.key s.buffers)) p.offset p.length) refused
      → Behind (effect_of (takes_in s (Labelled p following) arrival (buffers_of refused s.buffers later) (answer_of refused arrival.key later)))
  behind_refusal None e may = behind_kept e (is_whole_in (buffer_of arrival.key later)) refl
  behind_refusal (Some buffer.Held) e may = absurd may
  behind_refusal (Some buffer.Whole) e may = absurd may
  behind_refusal (Some buffer.Repeat) e may = behind_still _ refl
  behind_refusal (Some (buffer.Interference there other)) e may = behind_still _ (discard_keeps s (Labelled p following) _ 0)
  behind_refusal (Some (buffer.NoSlot live)) e may = behind_still _ (discard_keeps s (Labelled p following) _ 0)
  behind_refusal (Some (buffer.Crowded held size)) e may = behind_still _ (discard_keeps s (Labelled p following) _ 0)
  behind_refusal (Some (buffer.Many segments)) e may = behind_still _ (discard_keeps s (Labelled p following) _ 0)

  behind_packet : (came : Neighbour) → Behind (packet_comes s came p following)
  behind_packet came =
      packet_does Behind s came p following (λ reason of_none. behind_still _ (discard_keeps s (Labelled p following) reason 0))
      (λ router way port pieces there alive cuts known. behind_still _ refl) (behind_still _ refl)
      (λ own. one_of (λ (deed : Deed). Behind (effect_of deed)) (is_all p)
      (hand_up s p.unit.kind p.unit.source p.unit.destination (value_of p).body p.options) (offer s (Labelled p following) arrival)
      (behind_still _ (hand_up_keeps s p.unit.kind p.unit.source p.unit.destination (value_of p).body p.options))
      (behind_refusal (refusal (table_limits s) arrival s.buffers) refl (refusal_may (table_limits s) s.moment arrival s.buffers)))

  behind_frame : (came : Neighbour) (to_group : Bool)
      → let input = FrameComes came.port came.snpa to_group (Labelled p following) in
      AllByRecursion (StaysOrIsTold s input (step s input)) s.buffers
  behind_frame came to_group =
      let input : Input = FrameComes came.port came.snpa to_group (Labelled p following) in
      let whole = step s input in
      let come = packet_comes s came p following in
      let same : whole.after.buffers ≡ come.after.buffers = (only_responds come.after came to_group p).rest.buffers in
      AllByRecursion-implies (StaysBehind s p following come) (StaysOrIsTold s input whole)
      (λ b h. elim h [
        | inl (inl there) ↦ inl (subst (λ (l : List (Buffer Packet)). Contains l b) (sym same) there)
        | inl (inr gains) ↦ inr (inl (record {
          arrival = arrival;
          comes = refl;
          same = gains.0;
          there = subst (λ (l : List (Buffer Packet)). Contains l (record b { kept = b.kept ++ arrival ∷ [] })) (sym same) gains.1;
        }))
        | inr made ↦ inr (inr (inl (record {
          p = p;
          following = following;
          comes = refl;
          same = made.0;
          octets = made.1.0;
          whole = made.1.1;
          first = come;
          told = made.1.2;
          hellos = ends_with_hellos s p following came to_group;
        })))
      ]) s.buffers (behind_packet came)

-- Where a moment comes.

module _ {X Y : Type 0} (f : X → List Y) where
  each_in_all : (xs : List X) → AllByRecursion (λ x. (y : Y) → Contains (f x) y → Contains (flat_map f xs) y) xs
  each_in_all [] = tt
  each_in_all (x ∷ xs) = (
    λ y there. Contains-append_left (f x) (flat_map f xs) y there,
    AllByRecursion-implies (λ (z : X). (y : Y) → Contains (f z) y → Contains (flat_map f xs) y)
        (λ (z : X). (y : Y) → Contains (f z) y → Contains (f x ++ flat_map f xs) y)
        (λ z h y there. Contains-append_right (f x) (flat_map f xs) y (h y there)) xs (each_in_all xs),
  )

  -- what one element gives is among what all give
  in_all : (xs : List X) (x : X) (y : Y) → Contains xs x → Contains (f x) y → Contains (flat_map f xs) y
  in_all xs x y there in_one =
      AllByRecursion-contains (λ (z : X). (w : Y) → Contains (f z) w → Contains (flat_map f xs) w) xs x there (each_in_all xs) y in_one

moment_stays : (s : SystemState) (now : ℕ) → AllByRecursion (StaysOrIsTold s (MomentComes now) (step s (MomentComes now))) s.buffers
moment_stays s now =
    let deed = tick s now in
    let whole = step s (MomentComes now) in
    let given = flat_map (outputs_of deed.after) deed.actions in
    AllByRecursion-implies (StaysOrEnds now (at_moment now s) deed) (StaysOrIsTold s (MomentComes now) whole)
    (λ b h. elim h [
      | inl there ↦ inl (subst (λ (l : List (Buffer Packet)). Contains l b) (sym (buffers_kept s now)) there)
      | inr ends ↦ inr (inr (inr (inl (record {
        now = now;
        is = refl;
        ended = ends.0;
        left = ends.1.0;
        told = Contains-append_left given (then_does (forgets s.moment deed.after) says_hello).outputs (Notes (Expired b.key.id ends.1.0))
            (in_all (outputs_of deed.after) deed.actions (Tells (Expired b.key.id ends.1.0)) (Notes (Expired b.key.id ends.1.0)) ends.1.1 (0, omega arith, refl));
      }))))
    ]) s.buffers (each_stays_or_ends now (length s.buffers) (at_moment now s) refl)

-- Every step.

still_there : (s : SystemState) (input : Input) (effect : Effect) → effect.after.buffers ≡ s.buffers
    → AllByRecursion (StaysOrIsTold s input effect) s.buffers
still_there s input effect same = all_still s.buffers effect.after.buffers (λ b there. inl there) same

pub stays_or_is_told : (s : SystemState) (input : Input) → AllByRecursion IsPort s.attached.ports
    → AllByRecursion (StaysOrIsTold s input (step s input)) s.buffers
stays_or_is_told s (AsksToSend from to octets ask) each =
    still_there s (AsksToSend from to octets ask) (step s (AsksToSend from to octets ask)) (make_keeps s Dt from to octets ask)
stays_or_is_told s (AsksForEcho from to octets) each =
    still_there s (AsksForEcho from to octets) (step s (AsksForEcho from to octets)) (make_keeps s Erq from to octets (echo_ask s from to (length octets) true))
stays_or_is_told s (FrameComes port sender to_group (Labelled p following)) each =
    behind_frame s each p following (record { port = port; snpa = sender }) to_group
stays_or_is_told s (FrameComes port sender to_group (Esis value following)) each =
    let input : Input = FrameComes port sender to_group (Esis value following) in
    still_there s input (step s input) (only_comes s (record { port = port; snpa = sender }) value).rest.buffers
stays_or_is_told s (FrameComes port sender to_group (Unlabelled octets)) each =
    let input : Input = FrameComes port sender to_group (Unlabelled octets) in
    still_there s input (step s input)
    (octets_do (λ (deed : Deed). deed.after.buffers ≡ s.buffers) s octets (λ reason place. discard_keeps s (Unlabelled octets) reason place) (λ told. refl))
stays_or_is_told s (MomentComes now) each = moment_stays s now
stays_or_is_told s IsRestarted each =
    AllByRecursion-any (StaysOrIsTold s IsRestarted (step s IsRestarted)) (λ b. inr (inr (inr (inr (record { is = refl; told = refl }))))) s.buffers
stays_or_is_told s (IsCongested on) each = still_there s (IsCongested on) (step s (IsCongested on)) refl
stays_or_is_told s (IsChanged change) each = still_there s (IsChanged change) (step s (IsChanged change)) refl

-- What that says of the segments.

kept_in_all : (buffers : List (Buffer Packet)) (b : Buffer Packet) → Contains buffers b → AllByRecursion (Contains (segments_in buffers)) b.kept
kept_in_all buffers b there =
    AllByRecursion-implies (Contains b.kept) (Contains (segments_in buffers))
    (λ arrival in_one. in_all (λ (one : Buffer Packet). one.kept) buffers b arrival there in_one) b.kept (all_contained b.kept)

front_stays : (buffers : List (Buffer Packet)) (b : Buffer Packet) (arrival : Arrival Packet)
    → Contains buffers (record b { kept = b.kept ++ arrival ∷ [] }) → AllByRecursion (Contains (segments_in buffers)) b.kept
front_stays buffers b arrival there =
    AllByRecursion-front (Contains (segments_in buffers)) b.kept (arrival ∷ []) (kept_in_all buffers (record b { kept = b.kept ++ arrival ∷ [] }) there)

pub segments_stay_or_are_told : (s : SystemState) (input : Input) → AllByRecursion IsPort s.attached.ports
    → AllByRecursion (SegmentsStayOrAreTold s input (step s input)) s.buffers
segments_stay_or_are_told s input each =
    let whole = step s input in
    AllByRecursion-implies (StaysOrIsTold s input whole) (SegmentsStayOrAreTold s input whole)
    (λ b h. elim h [
      | inl there ↦ inl (kept_in_all whole.after.buffers b there)
      | inr (inl gains) ↦ inl (front_stays whole.after.buffers b gains.arrival gains.there)
      | inr (inr told) ↦ inr told
    ]) s.buffers (stays_or_is_told s input each)
