-- Buffers whose time has ended, taken out one after the other.
use Rattle.std.proofs.Common.{◌≡◌, ℕ, ◌<◌, List, ◌++◌, length, Option, None, Some, refl, sym, ap, ◌∙◌, subst, append_assoc, append-nil, arith}
use Rattle.std.specs.Prelude.{option_map, slice_get}
use Rattle.std.proofs.lemmas.List.{length-map}
use Rattle.std.proofs.lemmas.Option.{same_Some}
use Rattle.scenario.specs.ClnpPlan.ClnpViews.Extent.{Extent}
use Rattle.clnp_program.specs.FairCommands.Output.{told_line}
use Rattle.system_tables.specs.declared.reassembly.table.Expired.{Expired}
use Rattle.system_tables.specs.declared.reassembly.table.TableLimits.{TableLimits}
use Rattle.system_tables.specs.Reassembly.Buffer.{Buffer, due, first_carried, held, without, without_due}
use Rattle.system_tables.specs.Reassembly.NoWhole.{HasNoWhole}
use Rattle.system_tables.specs.Reassembly.State.{IsReady, Stands, TableState, opening_of}
use Rattle.system_tables.specs.FairReassembly.Calls.{Expires}
use Rattle.system_tables.specs.FairReassembly.Classes as classes
use Rattle.system_tables.specs.FairReassembly.Classes.{Effect, and_then, ends, expire_all, rests}
use Rattle.system_tables.specs.FairReassembly.Tables.{At, ChangesTable, FairState, IsAt, place_of}
use Rattle.system_tables.proofs.FairReassembly.Changed.{changed_as, changed_then, stands_then}
use Rattle.clnp_program.specs.FairCommands.Frames.{Tells}
use Rattle.clnp_program.proofs.FairCommands.Frames.{lines}

-- what the code tells of the due buffer
abbrev told_of : Buffer Extent → Expired
told_of ended = record { key = ended.key; first = first_carried ended }

-- the due buffer, of which the code told
record IsEnded (now : ℕ) (buffers : List (Buffer Extent)) (told : Expired) : Type 0 where
  pub ended : Buffer Extent
  pub is_due : due now buffers ≡ Some ended
  pub key : ended.key ≡ told.key

ended_by : (now : ℕ) (buffers : List (Buffer Extent)) (told : Expired) (found : Option (Buffer Extent)) → due now buffers ≡ found
    → Some told ≡ option_map told_of found → IsEnded now buffers told
ended_by now buffers told None is e = absurd (cc)
ended_by now buffers told (Some ended) is e =
    record { ended = ended; is_due = is; key = ap (λ (x : Expired). x.key) (sym (same_Some told (told_of ended) e)) }

none_by : (now : ℕ) (found : Option (Buffer Extent)) → None ≡ option_map told_of found → found ≡ None
none_by now None e = refl
none_by now (Some ended) e = absurd (cc)

-- the laws of buffers that end
abbrev pub NoneEnds : Type 0
NoneEnds = (now : ℕ) (buffers : List (Buffer Extent)) → due now buffers ≡ None → expire_all now buffers ≡ rests buffers

abbrev pub OneEnds : Type 0
OneEnds =
    (now : ℕ) (buffers : List (Buffer Extent)) (ended : Buffer Extent) → due now buffers ≡ Some ended
    → expire_all now buffers ≡ and_then (ends ended buffers) (expire_all now)

abbrev pub OneIsFewer : Type 0
OneIsFewer =
    (now : ℕ) (buffers : List (Buffer Extent)) (ended : Buffer Extent) → due now buffers ≡ Some ended
    → length (without ended.key buffers) < length buffers

abbrev pub expires : ℕ → TableLimits → List (Buffer Extent) → Effect
expires now limits buffers = expire_all now buffers

module _ (now : ℕ) where
  -- no buffer's time has ended
  pub tells_none : NoneEnds → (x : List ℕ) (old new : TableState) → Expires now None old new → Tells (expires now) now x x old new
  tells_none law x old new h =
      let none : (buffers : List (Buffer Extent)) → Stands old buffers → due now buffers ≡ None = λ buffers s. none_by now (due now buffers) (h.ended buffers s) in
      record {
        undergoes = record {
          stands = λ buffers s.
              subst (λ (effect : Effect). Stands new effect.buffers) (sym (law now buffers (none buffers s)))
              (subst (λ found. Stands new (without_due found buffers)) (none buffers s) (h.stands buffers s));
          none_whole = h.none_whole;
          limits = h.limits;
        };
        told = λ buffers s.
            subst (λ (effect : Effect). x ≡ x ++ lines now effect.told) (sym (law now buffers (none buffers s))) (sym (append-nil x));
      }

  -- one is taken out, and the others behind it
  pub tells_ended : OneEnds → (told_now : Expired) (holds : ℕ) (x y z : List ℕ) (old mid new : TableState) → Expires now (Some told_now) old mid
      → ((buffers : List (Buffer Extent)) → Stands mid buffers → holds ≡ held buffers)
      → y ≡ x ++ told_line now (classes.Expired told_now.key.from told_now.key.to told_now.key.id holds)
      → Tells (expires now) now y z mid new → Tells (expires now) now x z old new
  tells_ended law told_now holds x y z old mid new h is_held line rest =
      let found : (buffers : List (Buffer Extent)) → Stands old buffers → IsEnded now buffers told_now
      = λ buffers s. ended_by now buffers told_now (due now buffers) refl (h.ended buffers s) in
      let left : (buffers : List (Buffer Extent)) → (s : Stands old buffers) → Stands mid (without (found buffers s).ended.key buffers)
      = λ buffers s. subst (λ due. Stands mid (without_due due buffers)) (found buffers s).is_due (h.stands buffers s) in
      record {
        undergoes = record {
          stands = λ buffers s.
              subst (λ (effect : Effect). Stands new effect.buffers) (sym (law now buffers (found buffers s).ended (found buffers s).is_due))
              (rest.undergoes.stands (without (found buffers s).ended.key buffers) (left buffers s));
          none_whole = λ none. rest.undergoes.none_whole (h.none_whole none);
          limits = rest.undergoes.limits ∙ h.limits;
        };
        told = λ buffers s.
            let ended = (found buffers s).ended in
            let others = without ended.key buffers in
            let later = lines now (expire_all now others).told in
            let first : y ≡ x ++ told_line now (classes.Expired ended.key.from ended.key.to ended.key.id (held others))
            = line
            ∙ ap (λ n. x ++ told_line now (classes.Expired told_now.key.from told_now.key.to told_now.key.id n)) (is_held others (left buffers s))
            ∙ ap (λ key. x ++ told_line now (classes.Expired key.from key.to key.id (held others))) (sym (found buffers s).key) in
            subst (λ (effect : Effect). z ≡ x ++ lines now effect.told) (sym (law now buffers ended (found buffers s).is_due))
            (rest.told others (left buffers s) ∙ ap (λ front. front ++ later) first
            ∙ append_assoc x (told_line now (classes.Expired ended.key.from ended.key.to ended.key.id (held others))) later);
      }

  -- fewer are left
  pub fewer_open : OneIsFewer → (told_now : Expired) (old new : TableState) → Expires now (Some told_now) old new → HasNoWhole old
      → length new.openings < length old.openings
  fewer_open law told_now old new h none =
      let found = ended_by now none.buffers told_now (due now none.buffers) refl (h.ended none.buffers none.stands) in
      let left = subst (λ due. Stands new (without_due due none.buffers)) found.is_due (h.stands none.buffers none.stands) in
      let fewer = law now none.buffers found.ended found.is_due in
      let all : length old.openings ≡ length none.buffers = ap length none.stands.openings ∙ length-map none.buffers opening_of in
      let some : length new.openings ≡ length (without found.ended.key none.buffers) = ap length left.openings ∙ length-map (without found.ended.key none.buffers) opening_of in
      omega arith

-- how many buffers are open in the table at a place
abbrev pub openings_in : Option TableState → ℕ
openings_in None = 0
openings_in (Some table) = length table.openings

abbrev pub open_at : ℕ → FairState → ℕ
open_at place state = openings_in (slice_get state.tables place)

-- the loop over the due buffers of a source's table
module _ (now : ℕ) (from : List ℕ) where
  -- what comes of the buffers that are left comes of all
  abbrev pub GoesOn : (initial state : FairState) (x y : List ℕ) → Type 0
  GoesOn initial state x y =
      (after : FairState) (text : List ℕ) → ChangesTable (place_of initial.sources from) state after (Tells (expires now) now y text)
      → ChangesTable (place_of initial.sources from) initial after (Tells (expires now) now x text)

  at_first : (told : Option Expired) (initial state after : FairState) → state.sources ≡ initial.sources
      → ChangesTable (place_of state.sources from) state after (Expires now told) → ChangesTable (place_of initial.sources from) state after (Expires now told)
  at_first told initial state after same changed =
      subst (λ (sources : List (List ℕ)). ChangesTable (place_of sources from) state after (Expires now told)) same changed

  -- none is due
  pub ends_tells : NoneEnds → (initial state after : FairState) (x y : List ℕ) → state.sources ≡ initial.sources
      → ChangesTable (place_of state.sources from) state after (Expires now None) → GoesOn initial state x y
      → ChangesTable (place_of initial.sources from) initial after (Tells (expires now) now x y)
  ends_tells law initial state after x y same changed goes_on =
      let Done : TableState → TableState → Type 0 = Tells (expires now) now y y in
      goes_on after y
      (changed_as (place_of initial.sources from) (Expires now None) Done Done state after (λ old new at h. tells_none now law y old new h)
      (at_first None initial state after same changed))

  pub ends_ready : (initial state after : FairState) → state.sources ≡ initial.sources
      → ChangesTable (place_of state.sources from) state after (Expires now None) → At state (place_of initial.sources from) HasNoWhole
      → IsAt after (place_of initial.sources from) (IsReady now)
  ends_ready initial state after same changed none_whole =
      let c = at_first None initial state after same changed in
      let R : TableState → TableState → Type 0 = Expires now None in
      record {
        table = c.new;
        stands_at = stands_then (place_of initial.sources from) R R R state after c;
        holds = c.changes.ready (none_whole c.old c.stood) refl;
      }

  module _ (told_now : Expired) (initial state after : FairState) (same : state.sources ≡ initial.sources)
      (changed : ChangesTable (place_of state.sources from) state after (Expires now (Some told_now)))
      (none_whole : At state (place_of initial.sources from) HasNoWhole) where
    abbrev place : ℕ
    place = place_of initial.sources from

    abbrev here : ChangesTable (place_of initial.sources from) state after (Expires now (Some told_now))
    here = at_first (Some told_now) initial state after same changed

    abbrev R : TableState → TableState → Type 0
    R = Expires now (Some told_now)

    pub next_sources : after.sources ≡ initial.sources
    next_sources = ap (λ (s : FairState). s.sources) changed.rest ∙ same

    pub next_none_whole : At after (place_of initial.sources from) HasNoWhole
    next_none_whole table there =
        subst HasNoWhole (same_Some here.new table (sym (stands_then place R R R state after here) ∙ there))
        (here.changes.none_whole (none_whole here.old here.stood))

    pub next_goes_on : OneEnds → (at holds : ℕ) (x y z : List ℕ) → at ≡ place_of after.sources from
        → At after at (λ one. (buffers : List (Buffer Extent)) → Stands one buffers → holds ≡ held buffers)
        → z ≡ y ++ told_line now (classes.Expired told_now.key.from told_now.key.to told_now.key.id holds)
        → GoesOn initial state x y → GoesOn initial after x z
    next_goes_on law at holds x y z at_is is_held line goes_on last text later =
        let Later : TableState → TableState → Type 0 = Tells (expires now) now z text in
        let Both : TableState → TableState → Type 0 = Tells (expires now) now y text in
        let where_is : at ≡ place = at_is ∙ ap (λ (sources : List (List ℕ)). place_of sources from) next_sources in
        goes_on last text
        (changed_then place R Later Both state after last
        (λ old mid new there h t.
        tells_ended now law told_now holds y z text old mid new h
        (is_held mid (subst (λ (n : ℕ). slice_get after.tables n ≡ Some mid) (sym where_is) there)) line t)
        here later)

    pub next_smaller : OneIsFewer → open_at (place_of after.sources from) after < open_at (place_of state.sources from) state
    next_smaller law =
        let c = changed in
        let there = stands_then (place_of state.sources from) R R R state after c in
        let sources : place_of after.sources from ≡ place_of state.sources from
        = ap (λ (s : FairState). place_of s.sources from) c.rest in
        let old : open_at (place_of state.sources from) state ≡ length c.old.openings = ap openings_in c.stood in
        let new : open_at (place_of after.sources from) after ≡ length c.new.openings
        = ap (λ (n : ℕ). open_at n after) sources ∙ ap openings_in there in
        let none = none_whole c.old (subst (λ (s : List (List ℕ)). slice_get state.tables (place_of s from) ≡ Some c.old) same c.stood) in
        let fewer = fewer_open now law told_now c.old c.new c.changes none in
        omega arith
