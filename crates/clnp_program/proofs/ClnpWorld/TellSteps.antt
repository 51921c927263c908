-- What a trace tells of a copy that is given, settled or lost.
use Rattle.std.proofs.Common.{Bool, ◌≡◌, ℕ, suc, ◌+◌, inl, inr, List, [], ◌∷◌, ◌++◌, map, cond, Option, Some, refl, sym, ap, ◌∙◌, arith}
use Rattle.std.specs.Prelude.{slice_get}
use Rattle.std.specs.List.{filter}
use Rattle.std.proofs.lemmas.Bool.{cases_Bool, true≢false}
use Rattle.std.proofs.lemmas.List.Elements.{filter-append}
use Rattle.clnp_machine.specs.ClnpPlan.Journal.{Line, Late, Received}
use Rattle.clnp_machine.specs.ClnpPlan.declared.config.Limits.{Limits}
use Rattle.clnp_machine.specs.System.{SystemState, Output, Transmits, SendsEsis, Notes, Effect}
use Rattle.clnp_machine.specs.Step.{step}
use Rattle.clnp_machine.specs.ClnpNetwork.LabelledNetwork as network
use Rattle.clnp_machine.specs.ClnpNetwork.LabelledNetwork.{LabelledNetwork, Copy, Numbered, addressees_from, first_port, for_nobody, frame_to, give, give_each, give_to, hand_to, is_addressee, is_late, put_all_out, put_out, settle_copy, lose_copy, takes_effect, with_effect}
use Rattle.clnp_program.specs.ClnpWorld.Becoming.{GivesAsTold, TellsOnce, addressees_of, or_nobody, tells_of_copy, told_of_settled, told_to, told_to_each}
use Rattle.clnp_program.proofs.ClnpWorld.ModelSteps.{Seat, seat_of, same_age, same_seat, seats-give, clock-give, cursor-give_each}

-- nothing that a system gives out tells of a copy
quiet_outputs : (system : SystemState) (w : LabelledNetwork) (outputs : List Output) → filter tells_of_copy (put_all_out system w outputs).lines ≡ []
quiet_outputs system w [] = refl
quiet_outputs system w (Notes note ∷ outputs) = quiet_outputs system (put_out system w (Notes note)).world outputs
quiet_outputs system w (Transmits port target packet ∷ outputs) = quiet_outputs system (put_out system w (Transmits port target packet)).world outputs
quiet_outputs system w (SendsEsis port target value ∷ outputs) = quiet_outputs system (put_out system w (SendsEsis port target value)).world outputs

quiet_effect : (w : LabelledNetwork) (place : ℕ) (effect : Effect) → filter tells_of_copy (takes_effect w place effect).lines ≡ []
quiet_effect w place effect = quiet_outputs effect.after (with_effect w place effect) effect.outputs

module _ (limits : Limits) (given : Numbered) where
  given_to_one : (w : LabelledNetwork) (place : ℕ) (system : SystemState) (found : Option SystemState) → found ≡ Some system → slice_get w.systems place ≡ found
      → GivesAsTold limits given w place system
  given_to_one w place system found is there =
      let here : slice_get w.systems place ≡ Some system = there ∙ is in
      let gives : give limits given w place ≡ give_to limits given w place (Some system) = ap (give_to limits given w place) here in
      elim (cases_Bool (is_late limits w given.copy)) [
        | inl late ↦ record {
          caused = [];
          lines = ap (λ (s : network.Step). s.lines) gives ∙ rw late refl;
          quiet = refl;
          late = λ is_late. refl;
          soon = λ is_soon. absurd (true≢false (sym late ∙ is_soon));
        }
        | inr soon ↦ record {
          caused = (takes_effect w place (step system (frame_to system given.copy))).lines;
          lines = ap (λ (s : network.Step). s.lines) gives ∙ rw soon refl;
          quiet = quiet_effect w place (step system (frame_to system given.copy));
          late = λ is_late. absurd (true≢false (sym is_late ∙ soon));
          soon = λ is_soon. refl;
        }
      ]

  pub gives_as_told : (w : LabelledNetwork) (place : ℕ) (system : SystemState) → slice_get w.systems place ≡ Some system → GivesAsTold limits given w place system
  gives_as_told w place system there = given_to_one w place system (Some system) refl there

  -- what is told of the copy where it is given to one system
  told_once : (w : LabelledNetwork) (place : ℕ) (system : SystemState) → slice_get w.systems place ≡ Some system
      → filter tells_of_copy (give limits given w place).lines ≡ told_to limits w given system ∷ []
  told_once w place system there =
      let told = gives_as_told w place system there in
      elim (cases_Bool (is_late limits w given.copy)) [
        | inl late ↦ ap (filter tells_of_copy) told.lines ∙ rw late (ap (λ (ls : List Line). Late system.moment system.configuration.name given.number ∷ ls) told.quiet)
        | inr soon ↦
            ap (filter tells_of_copy) told.lines
            ∙ rw soon (ap (λ (ls : List Line).
            Received system.moment system.configuration.name given.number (first_port given.copy system.configuration.role system.attached.ports) ∷ ls) told.quiet)
      ]

  -- it is the same of systems of the same configuration that are attached alike, at the same clock
  told_alike : (v w : LabelledNetwork) (x y : SystemState) → map seat_of v.systems ≡ map seat_of w.systems → v.clock ≡ w.clock → seat_of x ≡ seat_of y
      → told_to limits v given x ≡ told_to limits w given y
  told_alike v w x y seated now e =
      ap (λ (late : Bool). cond late (Late x.moment x.configuration.name given.number)
      (Received x.moment x.configuration.name given.number (first_port given.copy x.configuration.role x.attached.ports)))
      (same_age limits given.copy v w seated now)
      ∙ ap (λ (s : Seat). cond (is_late limits w given.copy) (Late s.moment s.configuration.name given.number)
      (Received s.moment s.configuration.name given.number (first_port given.copy s.configuration.role s.attached.ports))) e

  -- and where it is given to each that it is for of some systems, from a place on
  told_each : (w : LabelledNetwork) (from : ℕ) (systems : List SystemState) → ((i : ℕ) → slice_get systems i ≡ slice_get w.systems (from + i))
      → (v : LabelledNetwork) → map seat_of v.systems ≡ map seat_of w.systems → v.clock ≡ w.clock
      → filter tells_of_copy (give_each limits given v (addressees_from from given.copy systems)).lines
      ≡ told_to_each limits w given (addressees_of given.copy systems)
  told_each w from [] same v seated now = refl
  told_each w from (system ∷ systems) same v seated now =
      let first : slice_get w.systems from ≡ Some system =
      ap (slice_get w.systems) (let none : from ≡ from + 0 = omega arith in none) ∙ sym (same 0) in
      let rest : (i : ℕ) → slice_get systems i ≡ slice_get w.systems (from + 1 + i) =
      λ i. same (suc i) ∙ ap (slice_get w.systems) (let next : from + suc i ≡ from + 1 + i = omega arith in next) in
      let there = same_seat v.systems w.systems from system seated first in
      let one = give limits given v from in
      let others = addressees_from (from + 1) given.copy systems in
      let told = told_once v from there.0 there.1 ∙ ap (λ (line : Line). line ∷ []) (told_alike v w there.0 system seated now there.2) in
      let more = told_each w (from + 1) systems rest one.world (seats-give limits given v from ∙ seated) (clock-give limits given v from ∙ now) in
      elim (cases_Bool (is_addressee given.copy system)) [
        | inl is ↦
            rw is
            (filter-append tells_of_copy one.lines (give_each limits given one.world others).lines
            ∙ (ap (λ (ls : List Line). ls ++ filter tells_of_copy (give_each limits given one.world others).lines) told
            ∙ ap (λ (ls : List Line). told_to limits w given system ∷ ls) more))
        | inr isnt ↦ rw isnt (told_each w (from + 1) systems rest v seated now)
      ]

nobody_alone : (now number : ℕ) (places : List ℕ) → filter tells_of_copy (for_nobody now number places) ≡ for_nobody now number places
nobody_alone now number [] = refl
nobody_alone now number (place ∷ places) = refl

-- a line tells of nobody exactly where no other does
or_nobody_is : (now number : ℕ) (copy : Copy) (tell : SystemState → Line) (from : ℕ) (systems : List SystemState)
    → for_nobody now number (addressees_from from copy systems) ++ map tell (addressees_of copy systems)
    ≡ or_nobody now number (map tell (addressees_of copy systems))
or_nobody_is now number copy tell from [] = refl
or_nobody_is now number copy tell from (system ∷ systems) =
    elim (cases_Bool (is_addressee copy system)) [
      | inl is ↦ rw is refl
      | inr isnt ↦ rw isnt (or_nobody_is now number copy tell (from + 1) systems)
    ]

module _ (limits : Limits) (w : LabelledNetwork) (copy : Copy) where
  settled_tells : filter tells_of_copy (settle_copy limits w (Some copy)).lines
      ≡ told_of_settled limits w (record { number = w.cursor + 1; copy = copy })
  settled_tells =
      let given : Numbered = record { number = w.cursor + 1; copy = copy } in
      let next : LabelledNetwork = record w { cursor = w.cursor + 1 } in
      let places = addressees_from 0 copy w.systems in
      let each = told_each limits given w 0 w.systems (λ i. ap (slice_get w.systems) (let same : i ≡ 0 + i = omega arith in same)) next refl refl in
      filter-append tells_of_copy (for_nobody w.clock given.number places) (give_each limits given next places).lines
      ∙ (ap (λ (ls : List Line). ls ++ filter tells_of_copy (give_each limits given next places).lines) (nobody_alone w.clock given.number places)
      ∙ (ap (λ (ls : List Line). for_nobody w.clock given.number places ++ ls) each
      ∙ or_nobody_is w.clock given.number copy (told_to limits w given) 0 w.systems))

  pub tells_once : slice_get w.copies w.cursor ≡ Some copy → TellsOnce limits w copy
  tells_once there =
      let settled : network.settle_one limits w ≡ settle_copy limits w (Some copy) = ap (settle_copy limits w) there in
      let lost : network.lose_one w ≡ lose_copy w (Some copy) = ap (lose_copy w) there in
      record {
        settled = ap (λ (s : network.Step). filter tells_of_copy s.lines) settled ∙ settled_tells;
        lost = ap (λ (s : network.Step). s.lines) lost;
        settled_next = ap (λ (s : network.Step). s.world.cursor) settled
            ∙ cursor-give_each limits (record { number = w.cursor + 1; copy = copy }) (record w { cursor = w.cursor + 1 }) (addressees_from 0 copy w.systems);
        lost_next = ap (λ (s : network.Step). s.world.cursor) lost;
      }
