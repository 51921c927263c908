-- Buffers whose time has ended are taken out, one after another.
use Rattle.clnp_machine.specs.ClnpOptions.Reasons.{reason_code}
use Rattle.clnp_machine.specs.Pdus.declared.clnp_options.reasons.Reason.TheVariants.{LifetimeExpiredInReassembly}
use Rattle.std.proofs.Common.{◌≡◌, ℕ, zero, suc, ◌≤◌, Bool, true, false, cond, List, [], ◌∷◌, ◌++◌, Option, Some, None, refl, sym, ap, ◌∙◌, subst, arith, append_assoc, append-nil}
use Rattle.std.specs.Prelude.{option_map, slice_get}
use Rattle.clnp_machine.specs.PduHeader.Rules.{is_reportable}
use Rattle.clnp_machine.specs.ClnpViews.Extent.{Extent, seen}
use Rattle.clnp_machine.specs.SystemTables.declared.reassembly.table.Expired.{Expired}
use Rattle.clnp_machine.specs.SystemTables.declared.reassembly.segment.Key.{Key}
use Rattle.clnp_machine.specs.Reassembly.Buffer as buffer
use Rattle.clnp_machine.specs.Reassembly.Buffer.{Buffer, due, first_carried, without, without_due}
use Rattle.clnp_machine.specs.Reassembly.Mapped.{map_buffer, map_buffers}
use Rattle.clnp_machine.specs.Reassembly.State as table
use Rattle.clnp_machine.specs.Reassembly.State.{TableState}
use Rattle.clnp_machine.specs.ClnpPlan.declared.note.Note.TheVariants.{Expired as Ended}
use Rattle.clnp_machine.specs.Unit.{Packet, wire}
use Rattle.clnp_machine.specs.Content.{Labelled, frame_of}
use Rattle.clnp_machine.specs.System.{SystemState}
use Rattle.clnp_machine.specs.Local as locally
use Rattle.clnp_machine.specs.Local.{Deed, Tells, and_then, discard_first, expire, give_up_due, gives_up, makes, report_unit, reports_from, rests}
use Rattle.clnp_systems.specs.declared.action.Action.{Action}
use Rattle.clnp_systems.specs.LocalState.{EntityState}
use Rattle.clnp_machine.specs.Local.{IsAsOffered}
use Rattle.clnp_systems.specs.Local.{Appends, Stands}
use Rattle.clnp_systems.proofs.Offering.{stands_with}
use Rattle.clnp_systems.proofs.Offers.{all_without}
use Rattle.clnp_systems.proofs.Shown.{due_shown, without_shown}
use Rattle.clnp_systems.proofs.Buffers.{first_carried-mapped}
use Rattle.clnp_machine.proofs.ClnpBase.Choices.{none_mapped}

-- ---- one after another

and_then-associates : (deed : Deed) (f g : SystemState → Deed) → and_then deed (λ s. and_then (f s) g) ≡ and_then (and_then deed f) g
and_then-associates deed f g =
    ap (λ (actions : List locally.Action). let d : Deed = record { after = (g (f deed.after).after).after; actions = actions } in d)
    (sym (append_assoc deed.actions (f deed.after).actions (g (f deed.after).after).actions))

-- the next one is the one that is due after so many
pub expire-more : (n : ℕ) (s : SystemState) → expire (suc n) s ≡ and_then (expire n s) (expire 1)
expire-more zero s = refl
expire-more (suc n) s = by (due s.moment s.buffers) refl (λ t. expire-more n t)
  where
    by : (found : Option (Buffer Packet)) → due s.moment s.buffers ≡ found
        → ((t : SystemState) → expire (suc n) t ≡ and_then (expire n t) (expire 1))
        → give_up_due found s (expire (suc n)) ≡ and_then (give_up_due found s (expire n)) (expire 1)
    by None e more = ap (λ (f : Option (Buffer Packet)). give_up_due f s (expire 0)) (sym e)
    by (Some ended) e more =
        ap (λ (deed : Deed). and_then (gives_up s ended) (λ (t : SystemState). deed)) (more (gives_up s ended).after)
        ∙ and_then-associates (gives_up s ended) (expire n) (expire 1)

-- a discard, and the report of it, come at no other moment
reports-moment : (s : SystemState) (own : Option (List ℕ)) (frame : List ℕ) (reason place : ℕ) → (reports_from own s frame reason place).after.moment ≡ s.moment
reports-moment s None frame reason place = refl
reports-moment s (Some own) frame reason place = by (is_reportable frame)
  where
    by : (b : Bool) → (cond b (makes s (report_unit s own frame reason place)) (rests s)).after.moment ≡ s.moment
    by true = refl
    by false = refl

discard_first-moment : (s : SystemState) (first : Option Packet) → (discard_first s first).after.moment ≡ s.moment
discard_first-moment s None = refl
discard_first-moment s (Some p) =
    reports-moment s (slice_get s.configuration.addresses 0) (frame_of (Labelled p [])) (reason_code LifetimeExpiredInReassembly) 0

given_up-moment : (s : SystemState) (ended : Buffer Packet) → (gives_up s ended).after.moment ≡ s.moment
given_up-moment s ended = discard_first-moment (record s { buffers = without ended.key s.buffers }) (first_carried ended)

pub expire-moment : (n : ℕ) (s : SystemState) → (expire n s).after.moment ≡ s.moment
expire-moment zero s = refl
expire-moment (suc n) s = by (due s.moment s.buffers) (λ t. expire-moment n t)
  where
    by : (found : Option (Buffer Packet)) → ((t : SystemState) → (expire n t).after.moment ≡ t.moment) → (give_up_due found s (expire n)).after.moment ≡ s.moment
    by None same = refl
    by (Some ended) same = same (gives_up s ended).after ∙ given_up-moment s ended

expire-none : (k : ℕ) (s : SystemState) → due s.moment s.buffers ≡ None → expire k s ≡ rests s
expire-none zero s none = refl
expire-none (suc k) s none = ap (λ (f : Option (Buffer Packet)). give_up_due f s (expire k)) none

-- where none is due after so many, no more are taken out
pub expire-ended : (n k : ℕ) (s : SystemState) → n ≤ k → due s.moment (expire n s).after.buffers ≡ None → expire k s ≡ expire n s
expire-ended zero k s fewer none = expire-none k s none
expire-ended (suc n) zero s fewer none = absurd (omega arith)
expire-ended (suc n) (suc k) s fewer none = by (due s.moment s.buffers) none (λ t. expire-ended n k t (omega arith))
  where
    by : (found : Option (Buffer Packet)) → due s.moment (give_up_due found s (expire n)).after.buffers ≡ None
        → ((t : SystemState) → due t.moment (expire n t).after.buffers ≡ None → expire k t ≡ expire n t)
        → give_up_due found s (expire k) ≡ give_up_due found s (expire n)
    by None none same = refl
    by (Some ended) none same =
        let moment : (gives_up s ended).after.moment ≡ s.moment = given_up-moment s ended in
        ap (λ (deed : Deed). and_then (gives_up s ended) (λ (t : SystemState). deed))
        (same (gives_up s ended).after (ap (λ (m : ℕ). due m (expire n (gives_up s ended).after).after.buffers) moment ∙ none))

-- ---- one

-- what began the unit, if it came
pub began : (first : Option Extent) (view : Extent) (other : Option Packet) → first ≡ Some view → option_map seen first ≡ option_map wire other
    → (p : Packet) × (other ≡ Some p) × (frame_of (Labelled p []) ≡ seen view)
began None view other is same = absurd (cc)
began (Some extent) view None is same = absurd (cc)
began (Some extent) view (Some p) is same =
    let here : extent ≡ view = cc in
    let shown : seen extent ≡ wire p = cc in
    (p, refl, append-nil (wire p) ∙ sym shown ∙ ap (λ (e : Extent). seen e) here)

both_none : (found : Option (Buffer Extent)) (other : Option (Buffer Packet)) → option_map (map_buffer seen) found ≡ option_map (map_buffer wire) other
    → found ≡ None → other ≡ None
both_none None None same e = refl
both_none None (Some other) same e = absurd (cc)
both_none (Some ended) other same e = absurd (cc)

module _ (local : EntityState) (now : ℕ) (s : SystemState) (stands : Stands local s) (moment : s.moment ≡ now) where
  same_due : option_map (map_buffer seen) (due now stands.buffers) ≡ option_map (map_buffer wire) (due s.moment s.buffers)
  same_due =
      due_shown stands.buffers s.buffers stands.shown now
      ∙ ap (λ (n : ℕ). option_map (map_buffer wire) (due n s.buffers)) (sym moment)

  pub none_due : due now stands.buffers ≡ None → due s.moment s.buffers ≡ None
  none_due = both_none (due now stands.buffers) (due s.moment s.buffers) same_due

  -- what the code tells of a buffer
  abbrev pub told_of : Buffer Extent → Expired
  told_of ended = record { key = ended.key; first = first_carried ended }

  module _ (table_later : TableState) (limits : table_later.limits ≡ local.table.limits) where
    -- none is taken out
    none_by : (found : Option (Buffer Extent)) (other : Option (Buffer Packet)) → option_map (map_buffer seen) found ≡ option_map (map_buffer wire) other
        → None ≡ option_map told_of found → table.Stands table_later (without_due found stands.buffers)
        → Stands (record local { table = table_later }) (give_up_due other s (expire 0)).after
    none_by None None same told table_stands =
        stands_with local table_later s stands limits stands.buffers s.buffers table_stands stands.shown stands.packets
    none_by None (Some other) same told table_stands = absurd (cc)
    none_by (Some ended) other same told table_stands = absurd (cc)

    pub none_stands : None ≡ option_map told_of (due now stands.buffers) → table.Stands table_later (without_due (due now stands.buffers) stands.buffers)
        → Stands (record local { table = table_later }) (expire 1 s).after
    none_stands told table_stands = none_by (due now stands.buffers) (due s.moment s.buffers) same_due told table_stands

    -- a buffer that is taken out: the entity stands for the system without it, and what began its unit is the same
    record IsTakenOut (result : Expired) (other : Buffer Packet) : Type 0 where
      entity : Stands (record local { table = table_later }) (record s { buffers = without other.key s.buffers })
      id : result.key.id ≡ other.key.id
      first : option_map seen result.first ≡ option_map wire (first_carried other)

    taken_out : (ended : Buffer Extent) (other : Buffer Packet) (result : Expired) → map_buffer seen ended ≡ map_buffer wire other → result ≡ told_of ended
        → table.Stands table_later (without ended.key stands.buffers) → IsTakenOut result other
    taken_out ended other result e result_is table_stands =
        let key = ap (λ (b : Buffer (List ℕ)). b.key) e in
        record {
          entity = stands_with local table_later s stands limits (without ended.key stands.buffers) (without other.key s.buffers) table_stands
              (without_shown stands.buffers s.buffers stands.shown ended.key ∙ ap (λ (k : Key). map_buffers wire (without k s.buffers)) key)
              (all_without IsAsOffered other.key s.buffers stands.packets);
          id = ap (λ (x : Expired). x.key.id) result_is ∙ ap (λ (k : Key). k.id) key;
          first = ap (λ (x : Expired). option_map seen x.first) result_is ∙ sym (first_carried-mapped seen ended) ∙ ap first_carried e ∙ first_carried-mapped wire other;
        }

    module _ (result : Expired) (told : Some result ≡ option_map told_of (due now stands.buffers))
        (table_stands : table.Stands table_later (without_due (due now stands.buffers) stands.buffers)) where
      some_by : (P : Deed → Type 0) → ((other : Buffer Packet) → IsTakenOut result other → P (give_up_due (Some other) s (expire 0)))
          → (found : Option (Buffer Extent)) (other : Option (Buffer Packet)) → option_map (map_buffer seen) found ≡ option_map (map_buffer wire) other
          → Some result ≡ option_map told_of found → table.Stands table_later (without_due found stands.buffers) → P (give_up_due other s (expire 0))
      some_by P each None other same told table_stands = absurd (cc)
      some_by P each (Some ended) None same told table_stands = absurd (cc)
      some_by P each (Some ended) (Some other) same told table_stands =
          let e : map_buffer seen ended ≡ map_buffer wire other = cc in
          let result_is : result ≡ told_of ended = cc in
          each other (taken_out ended other result e result_is table_stands)

      pub expired_stands : (last : EntityState)
          → ((t : SystemState) (first : Option Packet) → Stands (record local { table = table_later }) t → option_map seen result.first ≡ option_map wire first
          → Stands last (discard_first t first).after)
          → Stands last (expire 1 s).after
      expired_stands last discards =
          some_by (λ (d : Deed). Stands last d.after)
          (λ other is. discards (record s { buffers = without other.key s.buffers }) (first_carried other) is.entity is.first)
          (due now stands.buffers) (due s.moment s.buffers) same_due told table_stands

      pub expired_appends : (before behind : List Action)
          → ((t : SystemState) (first : Option Packet) → Stands (record local { table = table_later }) t → option_map seen result.first ≡ option_map wire first
          → Appends before behind (Tells (Ended result.key.id (buffer.held t.buffers)) ∷ (discard_first t first).actions))
          → Appends before behind (expire 1 s).actions
      expired_appends before behind discards =
          some_by (λ (d : Deed). Appends before behind d.actions)
          (λ other is.
          let t : SystemState = record s { buffers = without other.key s.buffers } in
          let appends = discards t (first_carried other) is.entity is.first in
          let same : Tells (Ended result.key.id (buffer.held t.buffers)) ∷ (discard_first t (first_carried other)).actions
          ≡ (Tells (Ended other.key.id (buffer.held t.buffers)) ∷ (discard_first t (first_carried other)).actions) ++ []
          = ap (λ (id : ℕ). Tells (Ended id (buffer.held t.buffers)) ∷ (discard_first t (first_carried other)).actions) is.id
          ∙ sym (append-nil (Tells (Ended other.key.id (buffer.held t.buffers)) ∷ (discard_first t (first_carried other)).actions)) in
          subst (λ (l : List locally.Action). Appends before behind l) same appends)
          (due now stands.buffers) (due s.moment s.buffers) same_due told table_stands

  pub none_appends : (before : List Action) → None ≡ option_map told_of (due now stands.buffers) → Appends before before (expire 1 s).actions
  none_appends before told =
      subst (λ (found : Option (Buffer Packet)). Appends before before (give_up_due found s (expire 0)).actions)
      (sym (none_due (none_mapped told_of (due now stands.buffers) (sym told))))
      (record { actions = []; appended = sym (append-nil before); do_all = tt })
