-- The opening that is found due is that of the due buffer.
use Rattle.std.proofs.Common.{◌≡◌, ◌∙◌, sym, ap, subst, ℕ, ◌≤◌, ◌<◌, List, length, take, Option, Some, None}
use Rattle.std.specs.Prelude.{slice_get}
use Rattle.std.specs.List.{All}
use Rattle.std.specs.Option.{option_map}
use Rattle.std.proofs.lemmas.Option.{same_Some, slice_get_within}
use Rattle.pdus.specs.ClnpViews.Extent.{Extent}
use Rattle.system_tables.specs.declared.reassembly.segment.Key.{Key}
use Rattle.system_tables.specs.declared.reassembly.segment.Segment.{Segment}
use Rattle.system_tables.specs.declared.reassembly.table.Expired.{Expired}
use Rattle.system_tables.specs.declared.reassembly.openings.Opening.{Opening}
use Rattle.system_tables.specs.declared.reassembly.table.TableLimits.{TableLimits}
use Rattle.system_tables.specs.Reassembly.Arrival.{same_key}
use Rattle.system_tables.specs.Reassembly.Buffer.{Buffer, buffer_of, due, first_carried, without, without_due}
use Rattle.system_tables.specs.Reassembly.Sound.{IsSound}
use Rattle.system_tables.specs.Reassembly.State.{TableState, IsAt, Stands}
use Rattle.pdus.proofs.ClnpBase.Filters.{find-only}
use Rattle.system_tables.proofs.ReassemblyFacts.Keys.{same_key-refl}
use Rattle.system_tables.proofs.ReassemblyFacts.Ended.{buffers-once, due_of, none_due_of}

-- what is known of the slot that is found due
abbrev pub IsDueSlot : ℕ → List Opening → ℕ → Type 0
IsDueSlot now openings slot =
    (opening : Opening) × (slice_get openings slot ≡ Some opening) × (opening.deadline ≤ now)
    × All (λ other. opening.deadline ≤ other.deadline) openings × All (λ other. opening.deadline < other.deadline) (take slot openings)

abbrev pub expired_of : Buffer Extent → Expired
expired_of ended = record { key = ended.key; first = first_carried ended }

module _ (limits : TableLimits) (openings : List Opening) (slots : List ℕ) (segments : List Segment) (held now slot : ℕ) (table : TableState)
    (view_is : record { limits = limits; openings = openings; slots = slots; segments = segments } ≡ table) (sound : IsSound limits openings segments held)
    (found : IsDueSlot now openings slot) where
  pub due_within : slot < length openings
  due_within = slice_get_within openings slot found.0 found.1

  module _ (buffers : List (Buffer Extent)) (stands : Stands table buffers) where
    stands_here : Stands (record { limits = limits; openings = openings; slots = slots; segments = segments }) buffers
    stands_here = subst (λ t. Stands t buffers) (sym view_is) stands

    the_due : (ended : Buffer Extent) × (due now buffers ≡ Some ended) × (ended.key ≡ found.0.key) × (slice_get buffers slot ≡ Some ended)
    the_due = due_of now openings buffers slot found.0 stands_here.openings found.1 found.2 found.3 found.4

    ended : Buffer Extent
    ended = the_due.0

    ended-key : ended.key ≡ found.0.key
    unfolding ended
    ended-key = the_due.2

    ended-is : due now buffers ≡ Some ended
    unfolding ended
    ended-is = the_due.1

    ended-at : slice_get buffers slot ≡ Some ended
    unfolding ended
    ended-at = the_due.3

    named : IsAt table slot ended.key
    named = record { opening = found.0; stands_at = ap (λ t. slice_get t.openings slot) (sym view_is) ∙ found.1; key_is = sym ended-key }

    is_there : buffer_of ended.key buffers ≡ Some ended
    is_there =
        find-only (λ b. same_key b.key ended.key) buffers slot ended ended-at (same_key-refl ended.key)
        (buffers-once openings slot found.0 found.1 ended.key (sym ended-key) sound.distinct limits segments slots buffers stands_here)

    pub due_gives : (read : Opening) → slice_get openings slot ≡ Some read → (first : Option Extent)
        → ((bs : List (Buffer Extent)) (taken : Buffer Extent) → Stands table bs → IsAt table slot taken.key → buffer_of taken.key bs ≡ Some taken → first ≡ first_carried taken)
        → (made : Expired) → made ≡ record { key = read.key; first = first } → Some made ≡ option_map expired_of (due now buffers)
    due_gives read is first gives made e =
        let key : read.key ≡ ended.key = ap (λ o. o.key) (same_Some read found.0 (sym is ∙ found.1)) ∙ sym ended-key in
        let same : made ≡ expired_of ended =
        e ∙ ap (λ k. record { key = k; first = first }) key ∙ ap (λ f. record { key = ended.key; first = f }) (gives buffers ended stands named is_there) in
        ap Some same ∙ sym (ap (option_map expired_of) ended-is)

    pub due_leaves : (after : TableState) → ((bs : List (Buffer Extent)) (key : Key) → Stands table bs → IsAt table slot key → Stands after (without key bs))
        → Stands after (without_due (due now buffers) buffers)
    due_leaves after leaves =
        subst (λ o. Stands after (without_due o buffers)) (sym ended-is) (leaves buffers ended.key stands named)

-- none is due
pub nothing_due : (now : ℕ) (openings : List Opening) (table : TableState) → openings ≡ table.openings → All (λ o. now < o.deadline) openings
    → (buffers : List (Buffer Extent)) → Stands table buffers → due now buffers ≡ None
nothing_due now openings table same later buffers stands = none_due_of now openings buffers (same ∙ stands.openings) later
