-- No two buffers of a system have one key.
use Rattle.std.proofs.Common.{◌≡◌, refl, sym, ap, subst, inl, inr, ℕ, zero, suc, Bool, true, false, not, List, [], ◌∷◌, length, Option, None, Some}
use Rattle.std.specs.List.{AllByRecursion}
use Rattle.std.proofs.lemmas.Bool.{cases_Bool}
use Rattle.clnp_plan.proofs.ClnpBase.Choices.{one_of}
use Rattle.clnp_plan.proofs.ClnpBase.Filters.{AllByRecursion-filter}
use Rattle.clnp_plan.proofs.ClnpBase.Lists.{AllByRecursion-both}
use Rattle.clnp_plan.specs.Pdus.declared.pdu_header.kind.Kind.TheVariants.{Dt, Erq}
use Rattle.clnp_plan.specs.SystemTables.declared.esis_tables.fact.Neighbour.{Neighbour}
use Rattle.system_tables.specs.declared.reassembly.segment.Key.{Key}
use Rattle.system_tables.specs.declared.reassembly.table.TableLimits.{TableLimits}
use Rattle.system_tables.specs.Reassembly.Arrival.{Arrival, same_key}
use Rattle.system_tables.specs.Reassembly.Buffer as buffer
use Rattle.system_tables.specs.Reassembly.Buffer.{Answer, Buffer, buffer_of, due, refusal, with_kept, without}
use Rattle.system_tables.proofs.ReassemblyFacts.Shared.{kept_or_not, same_key-false_sym, same_key-true}
use Rattle.clnp_machine.specs.Unit.{Packet, value_of}
use Rattle.clnp_machine.specs.Content.{Esis, Labelled, Unlabelled}
use Rattle.clnp_machine.specs.System.{SystemState, Input, AsksToSend, AsksForEcho, FrameComes, MomentComes, IsRestarted, IsCongested, IsChanged, Effect, table_limits}
use Rattle.clnp_machine.specs.Local.{Deed, at_moment, data_in, echo_ask, expire, give_up_due, gives_up, hand_up, is_all, offer, offered, takes_in}
use Rattle.clnp_machine.specs.Step.{packet_comes, step}
use Rattle.clnp_machine.specs.Whereabouts.{HaveOneOfEachKey, IsTheOneOfItsKey}
use Rattle.clnp_machine.proofs.Answering.{octets_do}
use Rattle.clnp_machine.proofs.Deeds.{given_up_after}
use Rattle.clnp_machine.proofs.Ending.{buffers_kept}
use Rattle.clnp_machine.proofs.Hellos.{only_comes, only_responds}
use Rattle.clnp_machine.proofs.Kept.{all_with_kept}
use Rattle.clnp_machine.proofs.Passing.{packet_does}
use Rattle.clnp_machine.proofs.Staying.{discard_keeps, hand_up_keeps, make_keeps}

-- the one of a key

one_more_before : (first : Buffer Packet) (later : List (Buffer Packet)) (b : Buffer Packet) → same_key b.key first.key ≡ false
    → IsTheOneOfItsKey later b → IsTheOneOfItsKey (first ∷ later) b
one_more_before first later b other is key same =
    let its : b.key ≡ key = same_key-true b.key key same in
    let differs : same_key first.key key ≡ false =
    subst (λ (k : Key). same_key first.key k ≡ false) its (same_key-false_sym b.key first.key other) in
    rw differs (is key same)

pub each_is_the_one : (buffers : List (Buffer Packet)) → HaveOneOfEachKey buffers → AllByRecursion (IsTheOneOfItsKey buffers) buffers
each_is_the_one [] apart = tt
each_is_the_one (b ∷ later) apart = (
  λ key same. rw same refl,
  AllByRecursion-both (λ (other : Buffer Packet). same_key other.key b.key ≡ false) (IsTheOneOfItsKey later) (IsTheOneOfItsKey (b ∷ later))
      (one_more_before b later) later apart.0 (each_is_the_one later apart.1),
)

-- what keeping a segment and taking out a buffer leave

apart_with : (limits : TableLimits) (moment : ℕ) (arrival : Arrival Packet) (buffers : List (Buffer Packet)) → HaveOneOfEachKey buffers
    → HaveOneOfEachKey (with_kept limits moment arrival buffers)
apart_with limits moment arrival [] apart = (tt, tt)
apart_with limits moment arrival (b ∷ later) apart =
    elim (cases_Bool (same_key b.key arrival.key)) [
      | inl same ↦ rw same apart
      | inr other ↦
          rw other (
            all_with_kept limits moment arrival (λ (o : Buffer Packet). same_key o.key b.key ≡ false)
                (record { new = same_key-false_sym b.key arrival.key other; more = λ o differs same. differs }) later apart.0,
            apart_with limits moment arrival later apart.1,
          )
    ]

apart_without : (key : Key) (buffers : List (Buffer Packet)) → HaveOneOfEachKey buffers → HaveOneOfEachKey (without key buffers)
apart_without key [] apart = tt
apart_without key (b ∷ later) apart =
    let passes : Buffer Packet → Bool = λ o. not (same_key o.key key) in
    one_of HaveOneOfEachKey (passes b) (b ∷ without key later) (without key later) (
      AllByRecursion-filter passes (λ (o : Buffer Packet). same_key o.key b.key ≡ false) (λ (o : Buffer Packet). same_key o.key b.key ≡ false) (λ o p h. h)
          later apart.0,
      apart_without key later apart.1,
    ) (apart_without key later apart.1)

-- every step

abbrev Apart : SystemState → Type 0
Apart s = HaveOneOfEachKey s.buffers

as_before : (before after : List (Buffer Packet)) → after ≡ before → HaveOneOfEachKey before → HaveOneOfEachKey after
as_before before after same apart = subst HaveOneOfEachKey (sym same) apart

module _ (s : SystemState) (p : Packet) (following : List ℕ) (apart : Apart s) where
  abbrev arrival : Arrival Packet
  arrival = offered p following

  taken_apart : (kept : List (Buffer Packet)) → HaveOneOfEachKey kept → (answer : Answer)
      → Apart (takes_in s (Labelled p following) arrival kept answer).after
  taken_apart kept k buffer.Held = k
  taken_apart kept k buffer.Whole =
      let t : SystemState = record s { buffers = without arrival.key kept } in
      let octets = data_in (buffer_of arrival.key kept) in
      as_before (without arrival.key kept) (hand_up t p.unit.kind p.unit.source p.unit.destination octets p.options).after.buffers
      (hand_up_keeps t p.unit.kind p.unit.source p.unit.destination octets p.options) (apart_without arrival.key kept k)
  taken_apart kept k (buffer.Interference there other) = as_before s.buffers _ (discard_keeps s (Labelled p following) _ 0) apart
  taken_apart kept k buffer.Repeat = apart
  taken_apart kept k (buffer.NoSlot live) = as_before s.buffers _ (discard_keeps s (Labelled p following) _ 0) apart
  taken_apart kept k (buffer.Crowded held size) = as_before s.buffers _ (discard_keeps s (Labelled p following) _ 0) apart
  taken_apart kept k (buffer.Many segments) = as_before s.buffers _ (discard_keeps s (Labelled p following) _ 0) apart

  packet_apart : (came : Neighbour) → Apart (packet_comes s came p following).after
  packet_apart came =
      let later = with_kept (table_limits s) s.moment arrival s.buffers in
      let refused = refusal (table_limits s) arrival s.buffers in
      packet_does (λ (effect : Effect). Apart effect.after) s came p following
      (λ reason of_none. as_before s.buffers _ (discard_keeps s (Labelled p following) reason 0) apart)
      (λ router way port pieces there alive cuts known. apart) apart
      (λ own. one_of (λ (deed : Deed). Apart deed.after) (is_all p)
      (hand_up s p.unit.kind p.unit.source p.unit.destination (value_of p).body p.options) (offer s (Labelled p following) arrival)
      (as_before s.buffers _ (hand_up_keeps s p.unit.kind p.unit.source p.unit.destination (value_of p).body p.options) apart)
      (taken_apart (buffer.after (table_limits s) s.moment arrival s.buffers)
      (kept_or_not HaveOneOfEachKey refused s.buffers later apart (λ e. apart_with (table_limits s) s.moment arrival s.buffers apart))
      (buffer.answer (table_limits s) s.moment arrival s.buffers)))

expired_apart : (most : ℕ) (t : SystemState) → Apart t → Apart (expire most t).after
expired_apart zero t apart = apart
expired_apart (suc most) t apart = go (expired_apart most) (due t.moment t.buffers)
  where
    go : ((v : SystemState) → Apart v → Apart (expire most v).after) → (found : Option (Buffer Packet)) → Apart (give_up_due found t (expire most)).after
    go behind None = apart
    go behind (Some ended) =
        behind (gives_up t ended).after
        (as_before (without ended.key t.buffers) (gives_up t ended).after.buffers (ap (λ (v : SystemState). v.buffers) (given_up_after t ended))
        (apart_without ended.key t.buffers apart))

pub step_apart : (s : SystemState) (input : Input) → HaveOneOfEachKey s.buffers → HaveOneOfEachKey (step s input).after.buffers
step_apart s (AsksToSend from to octets ask) apart = as_before s.buffers _ (make_keeps s Dt from to octets ask) apart
step_apart s (AsksForEcho from to octets) apart =
    as_before s.buffers _ (make_keeps s Erq from to octets (echo_ask s from to (length octets) true)) apart
step_apart s (FrameComes port sender to_group (Labelled p following)) apart =
    let came : Neighbour = record { port = port; snpa = sender } in
    let come = packet_comes s came p following in
    as_before come.after.buffers _ (only_responds come.after came to_group p).rest.buffers (packet_apart s p following apart came)
step_apart s (FrameComes port sender to_group (Esis value following)) apart =
    as_before s.buffers _ (only_comes s (record { port = port; snpa = sender }) value).rest.buffers apart
step_apart s (FrameComes port sender to_group (Unlabelled octets)) apart =
    octets_do (λ (deed : Deed). Apart deed.after) s octets
    (λ reason place. as_before s.buffers _ (discard_keeps s (Unlabelled octets) reason place) apart) (λ told. apart)
step_apart s (MomentComes now) apart =
    as_before _ (step s (MomentComes now)).after.buffers (buffers_kept s now) (expired_apart (length s.buffers) (at_moment now s) apart)
step_apart s IsRestarted apart = tt
step_apart s (IsCongested on) apart = apart
step_apart s (IsChanged change) apart = apart
