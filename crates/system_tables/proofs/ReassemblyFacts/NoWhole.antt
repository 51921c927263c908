-- No buffer is whole but the one that an answer says is.
use Rattle.std.proofs.Common.{◌≡◌, ◌≢◌, ◌∙◌, sym, ap, subst, refl, ℕ, List, Option, None}
use Rattle.std.specs.Option.{option_map}
use Rattle.pdus.specs.ClnpViews.Extent.{Extent}
use Rattle.system_tables.specs.declared.reassembly.segment.Key.{Key}
use Rattle.system_tables.specs.declared.reassembly.segment.Segment.{Segment}
use Rattle.system_tables.specs.declared.reassembly.table.Accept.{Accept}
use Rattle.system_tables.specs.declared.reassembly.table.Accept.TheVariants as accept
use Rattle.system_tables.specs.declared.reassembly.table.Expired.{Expired}
use Rattle.system_tables.specs.declared.reassembly.table.SlotNo.{SlotNo}
use Rattle.system_tables.specs.Reassembly.Arrival.{arrival_of}
use Rattle.system_tables.specs.Reassembly.Buffer.{Buffer, Whole, after, answer, answer_of, buffers_of, due, first_carried, kept_answer, refusal, undone, with_kept, without, without_due}
use Rattle.system_tables.specs.Reassembly.NoWhole.{HasNoWhole, IsCompleted}
use Rattle.system_tables.specs.Reassembly.State.{IsReady, IsWholeSlot, Names, Stands, TableState, said}
pub use Rattle.system_tables.proofs.ReassemblyFacts.Ready.{none_whole-without_due}
use Rattle.system_tables.proofs.ReassemblyFacts.Ready.{none_whole-after, none_whole-released, none_whole-undone, said_not_whole, whole_slot}
use Rattle.pdus.proofs.ClnpBase.Choices.{none_mapped}

module _ (old new : TableState) (now : ℕ) (segment : Segment) (told : Accept) (none : HasNoWhole old)
    (answered : (buffers : List (Buffer Extent)) → Stands old buffers → said told ≡ answer old.limits now (arrival_of segment) buffers)
    (stands : (buffers : List (Buffer Extent)) → Stands old buffers → Stands new (after old.limits now (arrival_of segment) buffers)) where
  later : Stands new (after old.limits now (arrival_of segment) none.buffers)
  later = stands none.buffers none.stands

  module _ (slot : SlotNo) (e : told ≡ accept.Whole slot) where
    is_whole_answer : answer old.limits now (arrival_of segment) none.buffers ≡ Whole
    is_whole_answer = sym (answered none.buffers none.stands) ∙ subst (λ t. said t ≡ Whole) (sym e) refl

    pub slot_whole : Names new slot.0 segment.key → IsWholeSlot new slot.0
    slot_whole named = whole_slot new slot.0 old.limits now segment none.buffers later named is_whole_answer

    pub slot_completed : Names new slot.0 segment.key → IsCompleted new slot.0
    slot_completed named =
        record {
          buffers = after old.limits now (arrival_of segment) none.buffers;
          stands = later;
          key = segment.key;
          named = named;
          none_without = none_whole-released old.limits now (arrival_of segment) none.buffers none.none_whole is_whole_answer;
          none_undone = none_whole-undone old.limits now (arrival_of segment) none.buffers none.none_whole is_whole_answer;
        }

  pub still_none_whole : ((slot : SlotNo) → told ≢ accept.Whole slot) → HasNoWhole new
  still_none_whole not =
      record {
        buffers = after old.limits now (arrival_of segment) none.buffers;
        stands = later;
        none_whole = none_whole-after old.limits now (arrival_of segment) none.buffers none.none_whole
            (λ whole. said_not_whole told not (answered none.buffers none.stands ∙ whole));
      }

pub released_none_whole : (old new : TableState) (slot : ℕ)
    → ((buffers : List (Buffer Extent)) (key : Key) → Stands old buffers → Names old slot key → Stands new (without key buffers))
    → IsCompleted old slot → HasNoWhole new
released_none_whole old new slot stands is =
    record { buffers = without is.key is.buffers; stands = stands is.buffers is.key is.stands is.named; none_whole = is.none_without }

pub undone_none_whole : (old new : TableState) (slot : ℕ)
    → ((buffers : List (Buffer Extent)) (key : Key) → Stands old buffers → Names old slot key → Stands new (undone key buffers))
    → IsCompleted old slot → HasNoWhole new
undone_none_whole old new slot stands is =
    record { buffers = undone is.key is.buffers; stands = stands is.buffers is.key is.stands is.named; none_whole = is.none_undone }

-- where the due buffer was taken out, if there is one
module _ (old new : TableState) (now : ℕ)
    (stands : (buffers : List (Buffer Extent)) → Stands old buffers → Stands new (without_due (due now buffers) buffers)) where
  pub expired_none_whole : HasNoWhole old → HasNoWhole new
  expired_none_whole none =
      record {
        buffers = without_due (due now none.buffers) none.buffers;
        stands = stands none.buffers none.stands;
        none_whole = none_whole-without_due (due now none.buffers) none.buffers none.none_whole;
      }

  pub expired_ready : (told : Option Expired)
      → ((buffers : List (Buffer Extent)) → Stands old buffers → told ≡ option_map (λ ended. record { key = ended.key; first = first_carried ended }) (due now buffers))
      → HasNoWhole old → told ≡ None → IsReady now new
  expired_ready told ended none e =
      let nothing = none_mapped (λ (ended : Buffer Extent). record { key = ended.key; first = first_carried ended }) (due now none.buffers)
      (sym (ended none.buffers none.stands) ∙ e) in
      record {
        buffers = none.buffers;
        stands = subst (λ o. Stands new (without_due o none.buffers)) nothing (stands none.buffers none.stands);
        ready = record { none_due = nothing; none_whole = none.none_whole };
      }

-- what is known of a segment that was kept since nothing refused it
module _ (old new : TableState) (now : ℕ) (segment : Segment) (refused : Option Accept) (told : Accept)
    (refusal_is : (buffers : List (Buffer Extent)) → Stands old buffers → option_map said refused ≡ refusal old.limits (arrival_of segment) buffers)
    (not_refused : refused ≡ None) where
  none_refused : (buffers : List (Buffer Extent)) → Stands old buffers → refusal old.limits (arrival_of segment) buffers ≡ None
  none_refused buffers stands = sym (refusal_is buffers stands) ∙ ap (option_map said) not_refused

  pub kept_answered : ((buffers : List (Buffer Extent)) → Stands old buffers → said told ≡ kept_answer segment.key (with_kept old.limits now (arrival_of segment) buffers))
      → (buffers : List (Buffer Extent)) → Stands old buffers → said told ≡ answer old.limits now (arrival_of segment) buffers
  kept_answered kept buffers stands =
      kept buffers stands
      ∙ ap (λ r. answer_of r segment.key (with_kept old.limits now (arrival_of segment) buffers)) (sym (none_refused buffers stands))

  pub kept_stands : ((buffers : List (Buffer Extent)) → Stands old buffers → Stands new (with_kept old.limits now (arrival_of segment) buffers))
      → (buffers : List (Buffer Extent)) → Stands old buffers → Stands new (after old.limits now (arrival_of segment) buffers)
  kept_stands kept buffers stands =
      subst (λ r. Stands new (buffers_of r buffers (with_kept old.limits now (arrival_of segment) buffers))) (sym (none_refused buffers stands))
      (kept buffers stands)
