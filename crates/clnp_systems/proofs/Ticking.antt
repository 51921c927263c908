-- One buffer after another is taken out until none is due.
use Rattle.std.proofs.Common.{◌≡◌, ℕ, ◌+◌, ◌<◌, ◌≤◌, true, false, not, List, [], ◌∷◌, Option, Some, None, length, refl, sym, ap, ◌∙◌, subst, arith, add-one, append-nil}
use Rattle.std.specs.Prelude.{is_some}
use Rattle.std.specs.List.{AllByRecursion}
use Rattle.clnp_machine.proofs.ClnpBase.Filters.{filter-fewer}
use Rattle.clnp_machine.specs.ClnpViews.Extent.{Extent}
use Rattle.clnp_machine.specs.Reassembly.Arrival.{same_key}
use Rattle.clnp_machine.specs.Reassembly.Buffer.{Buffer, due, is_whole, without, without_due}
use Rattle.clnp_machine.specs.Reassembly.NoWhole.{HasNoWhole}
use Rattle.clnp_machine.specs.Reassembly.State as table
use Rattle.clnp_machine.specs.Reassembly.State.{IsReady, TableState}
use Rattle.clnp_machine.specs.System.{SystemState}
use Rattle.clnp_machine.specs.Local.{Deed, at_moment, expire, tick}
use Rattle.clnp_systems.specs.declared.action.Action.{Action}
use Rattle.clnp_systems.specs.LocalState.{EntityState}
use Rattle.clnp_systems.specs.Local.{Appends, Stands}
use Rattle.clnp_systems.proofs.Appending.{appends-more}
use Rattle.clnp_systems.proofs.Expiry.{expire-ended, expire-moment, expire-more, none_due}
use Rattle.clnp_systems.proofs.Shown.{length_shown}
use Rattle.clnp_systems.proofs.Buffers.{due_is, none_whole-without_due, same_key-like}
use Rattle.clnp_machine.proofs.ClnpBase.Choices.{no_value}

-- at another moment it stands for the same
at_that_moment : (local : EntityState) (s : SystemState) (now : ℕ) → Stands local s → Stands local (at_moment now s)
at_that_moment local s now stands = record {
  configuration = stands.configuration;
  limits = stands.limits;
  count = stands.count;
  identifiers = stands.identifiers;
  buffers = stands.buffers;
  table = stands.table;
  shown = stands.shown;
  packets = stands.packets;
  pending = stands.pending;
}

-- what so many steps come to
pub record IsAfter (before after : EntityState) (old new : List Action) (now n : ℕ) : Type 0 where
  pub stands : (s : SystemState) → Stands before s → s.moment ≡ now → Stands after (expire n s).after
  pub actions : (s : SystemState) → Stands before s → s.moment ≡ now → Appends old new (expire n s).actions

-- what is left
pub record IsLeft (later : TableState) (n live : ℕ) : Type 0 where
  pub buffers : List (Buffer Extent)
  pub stands : table.Stands later buffers
  pub none_whole : AllByRecursion (λ (buffer : Buffer Extent). is_whole buffer ≡ false) buffers
  pub fewer : length buffers + n ≤ live

pub after_none : (local : EntityState) (old new : List Action) (now : ℕ) → new ≡ old → IsAfter local local old new now 0
after_none local old new now same = record {
  stands = λ s stands moment. stands;
  actions = λ s stands moment. record { actions = []; appended = same ∙ sym (append-nil old); do_all = tt };
}

module _ (before mid after : EntityState) (old out new : List Action) (now n : ℕ) (so_far : IsAfter before mid old out now n) where
  pub after_more : ((s : SystemState) → Stands mid s → s.moment ≡ now → Stands after (expire 1 s).after)
      → ((s : SystemState) → Stands mid s → s.moment ≡ now → Appends out new (expire 1 s).actions) → IsAfter before after old new now (n + 1)
  after_more stands actions =
      subst (IsAfter before after old new now) (sym (add-one n))
      (record {
        stands = λ s there moment.
            subst (λ (deed : Deed). Stands after deed.after) (sym (expire-more n s))
            (stands (expire n s).after (so_far.stands s there moment) (expire-moment n s ∙ moment));
        actions = λ s there moment.
            subst (λ (deed : Deed). Appends old new deed.actions) (sym (expire-more n s))
            (appends-more old out new (expire n s).actions (expire 1 (expire n s).after).actions (so_far.actions s there moment)
            (actions (expire n s).after (so_far.stands s there moment) (expire-moment n s ∙ moment)));
      })

  -- where none was due then, no further step takes one out
  pub ended_early : (live : ℕ) → n < live → ((buffers : List (Buffer Extent)) → table.Stands mid.table buffers → false ≡ is_some (due now buffers))
      → (s : SystemState) → Stands before s → s.moment ≡ now → expire live s ≡ expire (n + 1) s
  ended_early live fewer none s there moment =
      let stands = so_far.stands s there moment in
      let none_there = none_due mid now (expire n s).after stands (expire-moment n s ∙ moment) (no_value (due now stands.buffers) (sym (none stands.buffers stands.table))) in
      let none_then : due s.moment (expire n s).after.buffers ≡ None = ap (λ m. due m (expire n s).after.buffers) (sym (expire-moment n s)) ∙ none_there in
      expire-ended n live s (omega arith) none_then ∙ sym (expire-ended n (n + 1) s (omega arith) none_then)

module _ (before after : EntityState) (old new : List Action) (now n live : ℕ) (done : IsAfter before after old new now n)
    (all : (s : SystemState) → Stands before s → s.moment ≡ now → expire live s ≡ expire n s)
    (live_is : (buffers : List (Buffer Extent)) → table.Stands before.table buffers → live ≡ length buffers) where
  tick_is : (s : SystemState) → Stands before s → tick s now ≡ expire n (at_moment now s)
  tick_is s stands =
      ap (λ (k : ℕ). expire k (at_moment now s)) (sym (live_is stands.buffers stands.table ∙ length_shown stands.buffers s.buffers stands.shown))
      ∙ all (at_moment now s) (at_that_moment before s now stands) refl

  pub ticked_stands : (s : SystemState) → Stands before s → Stands after (tick s now).after
  ticked_stands s stands =
      subst (λ (deed : Deed). Stands after deed.after) (sym (tick_is s stands)) (done.stands (at_moment now s) (at_that_moment before s now stands) refl)

  pub ticked_appends : (s : SystemState) → Stands before s → Appends old new (tick s now).actions
  ticked_appends s stands =
      subst (λ (deed : Deed). Appends old new deed.actions) (sym (tick_is s stands)) (done.actions (at_moment now s) (at_that_moment before s now stands) refl)

-- ---- what is left

fewer-without_due : (now : ℕ) (buffers : List (Buffer Extent)) (found : Option (Buffer Extent)) → due now buffers ≡ found → true ≡ is_some found
    → length (without_due found buffers) < length buffers
fewer-without_due now buffers None e some = absurd (cc)
fewer-without_due now buffers (Some ended) e some =
    let is = due_is now buffers ended e in
    subst (λ (l : List (Buffer Extent)). length (without ended.key l) < length l) (sym is.stands_there)
    (filter-fewer (λ (b : Buffer Extent). not (same_key b.key ended.key)) is.before ended is.behind (ap not (same_key-like ended.key ended.key refl)))

pub left_first : (now_table : TableState) (live : ℕ) → HasNoWhole now_table
    → ((buffers : List (Buffer Extent)) → table.Stands now_table buffers → live ≡ length buffers) → IsLeft now_table 0 live
left_first now_table live has live_is = record {
  buffers = has.buffers;
  stands = has.stands;
  none_whole = has.none_whole;
  fewer = (let e = live_is has.buffers has.stands in omega arith);
}

module _ (mid later : TableState) (now n live : ℕ) (left : IsLeft mid n live) where
  pub left_more : ((buffers : List (Buffer Extent)) → table.Stands mid buffers → (true ≡ is_some (due now buffers)) × table.Stands later (without_due (due now buffers) buffers))
      → IsLeft later (n + 1) live
  left_more given =
      let fact = given left.buffers left.stands in
      let less = fewer-without_due now left.buffers (due now left.buffers) refl fact.0 in
      let fewer = left.fewer in
      record {
        buffers = without_due (due now left.buffers) left.buffers;
        stands = fact.1;
        none_whole = none_whole-without_due (due now left.buffers) left.buffers left.none_whole;
        fewer = omega arith;
      }

  pub ready_early : ((buffers : List (Buffer Extent)) → table.Stands mid buffers → (false ≡ is_some (due now buffers)) × table.Stands later (without_due (due now buffers) buffers))
      → IsReady now later
  ready_early given =
      let fact = given left.buffers left.stands in
      let none_due = no_value (due now left.buffers) (sym fact.0) in
      record {
        buffers = left.buffers;
        stands = subst (λ (found : Option (Buffer Extent)). table.Stands later (without_due found left.buffers)) none_due fact.1;
        ready = record { none_due = none_due; none_whole = left.none_whole };
      }

pub ready_at_end : (later : TableState) (now live : ℕ) → IsLeft later live live → IsReady now later
ready_at_end later now live left = by left.buffers left.stands left.none_whole left.fewer
  where
    by : (buffers : List (Buffer Extent)) → table.Stands later buffers → AllByRecursion (λ (buffer : Buffer Extent). is_whole buffer ≡ false) buffers
        → length buffers + live ≤ live → IsReady now later
    by [] stands none_whole fewer = record { buffers = []; stands = stands; ready = record { none_due = refl; none_whole = none_whole } }
    by (first ∷ others) stands none_whole fewer = absurd (omega arith)
