-- What comes of a segment that is offered to an entity: it stands for what the model's system is then.
use Rattle.std.proofs.Common.{◌≡◌, ℕ, ◌≤◌, false, List, Option, Some, None, length, map, refl, sym, ap, ◌∙◌, subst}
use Rattle.std.specs.Prelude.{option_map}
use Rattle.std.specs.List.{AllByRecursion, find}
use Rattle.clnp_machine.specs.ClnpViews.Extent.{Extent, seen}
use Rattle.clnp_machine.specs.SystemTables.declared.reassembly.segment.Key.{Key}
use Rattle.clnp_machine.specs.SystemTables.declared.reassembly.segment.Segment.{Segment}
use Rattle.clnp_machine.specs.SystemTables.declared.reassembly.table.Accept.{Accept}
use Rattle.clnp_machine.specs.SystemTables.declared.reassembly.table.Accept.TheVariants as accept
use Rattle.clnp_machine.specs.SystemTables.declared.reassembly.table.TableLimits.{TableLimits}
use Rattle.clnp_machine.specs.Reassembly.Arrival.{Arrival, arrival_of, octet_in}
use Rattle.clnp_machine.specs.Reassembly.Buffer as buffer
use Rattle.clnp_machine.specs.Reassembly.Buffer.{Answer, Buffer, after, answer, buffer_of, data_of, without}
use Rattle.clnp_machine.specs.Reassembly.Mapped.{map_buffer}
use Rattle.clnp_machine.specs.Reassembly.State as table
use Rattle.clnp_machine.specs.Reassembly.State.{IsReady, TableState, said, was_kept}
use Rattle.clnp_machine.specs.ClnpOptions.Parameter.{Parameter}
use Rattle.clnp_machine.specs.Pdus.declared.pdu_header.kind.Kind.{Kind}
use Rattle.clnp_machine.specs.Pdus.declared.pdu_header.kind.Kind.TheVariants.{Dt, Er, Erq, Erp}
use Rattle.clnp_machine.specs.ClnpPlan.declared.note.Note.{Note}
use Rattle.clnp_machine.specs.Unit.{DataUnit, Packet, wire}
use Rattle.clnp_machine.specs.Content.{Content}
use Rattle.clnp_machine.specs.System.{SystemState, table_limits}
use Rattle.clnp_machine.specs.Local as locally
use Rattle.clnp_machine.specs.Local.{data_in, echo_ask, hand_up, is_answer, octet_of, offer, refusal, takes_in, takes_reply, unit_of, unless_refused}
use Rattle.clnp_systems.specs.declared.action.Action.{Action}
use Rattle.clnp_systems.specs.LocalState.{EntityState}
use Rattle.clnp_machine.specs.Local.{IsAsOffered}
use Rattle.clnp_systems.specs.Local.{Appends, Stands}
use Rattle.clnp_systems.specs.Receipt.{IsShown, with_answer}
use Rattle.clnp_systems.proofs.Joined.{data_shown}
use Rattle.clnp_systems.proofs.Offers.{AllKept, all_after, all_found, all_without}
use Rattle.clnp_systems.proofs.Shown.{Show, after_shown, answer_shown, buffer_of_shown, without_shown}
use Rattle.clnp_systems.proofs.Buffers.{none_due-after, none_due-without, none_whole-after, none_whole-released}

-- the entity with another table stands for the system with other buffers
pub stands_with : (local : EntityState) (later : TableState) (s : SystemState) → Stands local s → later.limits ≡ local.table.limits
    → (buffers : List (Buffer Extent)) (others : List (Buffer Packet)) → table.Stands later buffers → Show buffers others → AllKept IsAsOffered others
    → Stands (record local { table = later }) (record s { buffers = others })
stands_with local later s stands limits buffers others table_stands shown all = record {
  configuration = stands.configuration;
  limits = limits ∙ stands.limits;
  count = stands.count;
  identifiers = stands.identifiers;
  buffers = buffers;
  table = table_stands;
  shown = shown;
  packets = all;
  pending = stands.pending;
}

-- a deed where the system's buffers are others in the end
abbrev pub with_buffers : List (Buffer Packet) → locally.Deed → locally.Deed
with_buffers buffers deed = record { after = record deed.after { buffers = buffers }; actions = deed.actions }

-- what is handed up changes no buffer, and depends on none
pub hand_up-apart : (s : SystemState) (buffers : List (Buffer Packet)) (kind : Kind) (from to octets : List ℕ) (options : List Parameter)
    → hand_up (record s { buffers = buffers }) kind from to octets options ≡ with_buffers buffers (hand_up s kind from to octets options)
hand_up-apart s buffers Dt from to octets options = refl
hand_up-apart s buffers Er from to octets options = refl
hand_up-apart s buffers Erq from to octets options =
    by (refusal s (unit_of s Erp to from octets (echo_ask s to from (length octets) false)))
  where
    by : (refused : Option Note) → unless_refused refused (record s { buffers = buffers }) (unit_of s Erp to from octets (echo_ask s to from (length octets) false))
        ≡ with_buffers buffers (unless_refused refused s (unit_of s Erp to from octets (echo_ask s to from (length octets) false)))
    by None = refl
    by (Some refused) = refl
hand_up-apart s buffers Erp from to octets options = by (find (is_answer from to octets) s.pending)
  where
    by : (found : Option DataUnit) → takes_reply (record s { buffers = buffers }) from to octets found ≡ with_buffers buffers (takes_reply s from to octets found)
    by None = refl
    by (Some request) = refl

module _ (local : EntityState) (now : ℕ) (segment : Segment) (s : SystemState) (frame : Content) (arrival : Arrival Packet)
    (stands : Stands local s) (moment : s.moment ≡ now) (shows : IsShown segment arrival) where
  -- the buffers once the segment was kept, in the code and in the model
  abbrev pub later : List (Buffer Extent)
  later = after local.table.limits now (arrival_of segment) stands.buffers

  abbrev pub others : List (Buffer Packet)
  others = after (table_limits s) s.moment arrival s.buffers

  pub same_answer : answer local.table.limits now (arrival_of segment) stands.buffers ≡ answer (table_limits s) s.moment arrival s.buffers
  same_answer =
      answer_shown stands.buffers s.buffers stands.shown local.table.limits now (arrival_of segment) arrival shows.shown
      ∙ ap (λ (l : TableLimits). answer l now arrival s.buffers) stands.limits
      ∙ ap (λ (n : ℕ). answer (table_limits s) n arrival s.buffers) (sym moment)

  pub later_shown : Show later others
  later_shown =
      after_shown stands.buffers s.buffers stands.shown local.table.limits now (arrival_of segment) arrival shows.shown
      ∙ ap (λ (l : TableLimits). map (map_buffer wire) (after l now arrival s.buffers)) stands.limits
      ∙ ap (λ (n : ℕ). map (map_buffer wire) (after (table_limits s) n arrival s.buffers)) (sym moment)

  all_others : AllKept IsAsOffered others
  all_others = all_after IsAsOffered (table_limits s) s.moment arrival s.buffers stands.packets shows.as_offered

  same_key : segment.key ≡ arrival.key
  same_key = ap (λ (a : Arrival (List ℕ)). a.key) shows.shown

  -- what comes of it, by its answer
  pub offer_is : (told : Answer) → told ≡ answer local.table.limits now (arrival_of segment) stands.buffers → offer s frame arrival ≡ takes_in s frame arrival others told
  offer_is told e = ap (takes_in s frame arrival others) (sym (e ∙ same_answer))

  -- the entity where the unit isn't whole
  pub told_stands : (told : Accept) (table_later : TableState) → said told ≡ answer local.table.limits now (arrival_of segment) stands.buffers
      → ((said told ≡ buffer.Whole) → ⊥) → (was_kept told ≡ false → table_later ≡ local.table) → table_later.limits ≡ local.table.limits
      → table.Stands table_later later → Stands (record local { table = table_later }) (with_answer s others (said told))
  told_stands told table_later e not_whole same limits table_stands = by told not_whole same
    where
      unchanged : table_later ≡ local.table → Stands (record local { table = table_later }) s
      unchanged same = subst (λ (t : TableState). Stands (record local { table = t }) s) (sym same) stands

      by : (told : Accept) → ((said told ≡ buffer.Whole) → ⊥) → (was_kept told ≡ false → table_later ≡ local.table)
          → Stands (record local { table = table_later }) (with_answer s others (said told))
      by accept.Held not_whole same = stands_with local table_later s stands limits later others table_stands later_shown all_others
      by (accept.Whole slot) not_whole same = absurd (not_whole refl)
      by accept.Repeat not_whole same = unchanged (same refl)
      by (accept.Interference kept offered) not_whole same = unchanged (same refl)
      by (accept.NoSlot live) not_whole same = unchanged (same refl)
      by (accept.Crowded held size) not_whole same = unchanged (same refl)
      by (accept.Many kept) not_whole same = unchanged (same refl)

  -- the entity where the unit is whole, before its buffer is taken out
  pub kept_stands : (table_later : TableState) → table_later.limits ≡ local.table.limits → table.Stands table_later later
      → Stands (record local { table = table_later }) (record s { buffers = others })
  kept_stands table_later limits table_stands = stands_with local table_later s stands limits later others table_stands later_shown all_others

  -- the data that are handed up
  data_by : (found : Option (Buffer Packet)) (whole : Buffer Extent) → option_map (map_buffer seen) (Some whole) ≡ option_map (map_buffer wire) found
      → ((other : Buffer Packet) → found ≡ Some other → AllByRecursion IsAsOffered other.kept) → data_of octet_in whole ≡ data_in found
  data_by None whole e all = absurd (cc)
  data_by (Some other) whole e all = data_shown whole other (let f : map_buffer seen whole ≡ map_buffer wire other = cc in f) (all other refl)

  pub whole_data : (whole : Buffer Extent) → buffer_of segment.key later ≡ Some whole → data_of octet_in whole ≡ data_in (buffer_of arrival.key others)
  whole_data whole found =
      data_by (buffer_of arrival.key others) whole
      (ap (option_map (map_buffer seen)) (sym found) ∙ buffer_of_shown later others later_shown segment.key
      ∙ ap (λ (k : Key). option_map (map_buffer wire) (buffer_of k others)) same_key)
      (λ other there. all_found IsAsOffered arrival.key others other there all_others)

  -- it is handed up as if its buffer were taken out behind that
  pub whole_is : (octets : List ℕ) (whole : Buffer Extent) → buffer_of segment.key later ≡ Some whole → octets ≡ data_of octet_in whole
      → takes_in s frame arrival others buffer.Whole
      ≡ with_buffers (without arrival.key others)
      (hand_up (record s { buffers = others }) arrival.carried.unit.kind segment.key.from segment.key.to octets arrival.carried.options)
  whole_is octets whole found octets_are =
      hand_up-apart (record s { buffers = others }) (without arrival.key others) arrival.carried.unit.kind arrival.key.from arrival.key.to
      (data_in (buffer_of arrival.key others)) arrival.carried.options
      ∙ ap (λ (k : Key). with_buffers (without arrival.key others)
      (hand_up (record s { buffers = others }) arrival.carried.unit.kind k.from k.to (data_in (buffer_of arrival.key others)) arrival.carried.options))
      (sym same_key)
      ∙ ap (λ (handed : List ℕ). with_buffers (without arrival.key others)
      (hand_up (record s { buffers = others }) arrival.carried.unit.kind segment.key.from segment.key.to handed arrival.carried.options))
      (sym (octets_are ∙ whole_data whole found))

  -- the entity that handed the unit up, once its buffer is taken out
  pub whole_stands : (handed : EntityState) (table_later : TableState) (octets : List ℕ) (whole : Buffer Extent)
      → buffer.Whole ≡ answer local.table.limits now (arrival_of segment) stands.buffers → buffer_of segment.key later ≡ Some whole
      → octets ≡ data_of octet_in whole
      → Stands handed (hand_up (record s { buffers = others }) arrival.carried.unit.kind segment.key.from segment.key.to octets arrival.carried.options).after
      → table_later.limits ≡ handed.table.limits → table.Stands table_later (without segment.key later)
      → Stands (record handed { table = table_later }) (offer s frame arrival).after
  whole_stands handed table_later octets whole e found octets_are handed_stands limits table_stands =
      subst (λ (deed : locally.Deed). Stands (record handed { table = table_later }) deed.after)
      (sym (offer_is buffer.Whole e ∙ whole_is octets whole found octets_are))
      (stands_with handed table_later _ handed_stands limits (without segment.key later) (without arrival.key others) table_stands
      (without_shown later others later_shown segment.key ∙ ap (λ (k : Key). map (map_buffer wire) (without k others)) same_key)
      (all_without IsAsOffered arrival.key others all_others))

  pub whole_appends : (octets : List ℕ) (whole : Buffer Extent) (before behind : List Action)
      → buffer.Whole ≡ answer local.table.limits now (arrival_of segment) stands.buffers → buffer_of segment.key later ≡ Some whole → octets ≡ data_of octet_in whole
      → Appends before behind (hand_up (record s { buffers = others }) arrival.carried.unit.kind segment.key.from segment.key.to octets arrival.carried.options).actions
      → Appends before behind (offer s frame arrival).actions
  whole_appends octets whole before behind e found octets_are appends =
      subst (λ (deed : locally.Deed). Appends before behind deed.actions)
      (sym (offer_is buffer.Whole e ∙ whole_is octets whole found octets_are)) appends

-- no buffer is due or whole afterwards
pub told_ready : (table_before table_later : TableState) (now : ℕ) (segment : Segment) (ready : IsReady now table_before) → 1 ≤ table_before.limits.hold → 1 ≤ segment.life
    → ((answer table_before.limits now (arrival_of segment) ready.buffers ≡ buffer.Whole) → ⊥)
    → table.Stands table_later (after table_before.limits now (arrival_of segment) ready.buffers) → IsReady now table_later
told_ready table_before table_later now segment ready hold alive not_whole stands = record {
  buffers = after table_before.limits now (arrival_of segment) ready.buffers;
  stands = stands;
  ready = record {
    none_due = none_due-after table_before.limits now (arrival_of segment) hold alive ready.buffers ready.ready.none_due;
    none_whole = none_whole-after table_before.limits now (arrival_of segment) ready.buffers ready.ready.none_whole not_whole;
  };
}

pub whole_ready : (table_before table_later : TableState) (now : ℕ) (segment : Segment) (ready : IsReady now table_before) → 1 ≤ table_before.limits.hold → 1 ≤ segment.life
    → answer table_before.limits now (arrival_of segment) ready.buffers ≡ buffer.Whole
    → table.Stands table_later (without segment.key (after table_before.limits now (arrival_of segment) ready.buffers)) → IsReady now table_later
whole_ready table_before table_later now segment ready hold alive whole stands = record {
  buffers = without segment.key (after table_before.limits now (arrival_of segment) ready.buffers);
  stands = stands;
  ready = record {
    none_due = none_due-without now segment.key (after table_before.limits now (arrival_of segment) ready.buffers)
        (none_due-after table_before.limits now (arrival_of segment) hold alive ready.buffers ready.ready.none_due);
    none_whole = none_whole-released table_before.limits now (arrival_of segment) ready.buffers ready.ready.none_whole whole;
  };
}
