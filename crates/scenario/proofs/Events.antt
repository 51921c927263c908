-- Reading event lines one after the other, as a loop does.
use Rattle.std.proofs.Common.{◌≡◌, ℕ, ◌+◌, true, false, List, [], ◌∷◌, ◌++◌, codes, Result, Ok, Err, refl, sym, ap, ◌∙◌}
use Rattle.std.proofs.lemmas.List.{append-nil}
use Rattle.clnp_plan.specs.ClnpBase.Text.{words_of, is_skipped}
use Rattle.scenario.specs.declared.counts.Counts.{Counts}
use Rattle.clnp_plan.specs.declared.scenario_plan.event.Event.{Event}
use Rattle.scenario.specs.declared.fault.ScenarioRefusal.{ScenarioRefusal}
use Rattle.scenario.specs.declared.fault.ScenarioRefusal.TheVariants as scenario_refusal
use Rattle.scenario.specs.declared.code.Code.{Code}
use Rattle.scenario.specs.declared.code.Code.TheVariants as bad
use Rattle.scenario.specs.Codes.{number_of}
use Rattle.scenario.specs.Events.{Scene, scene_after, counted}
use Rattle.scenario.specs.Grammar.{BadLine, at_line, is_line_of, nothing_after, events_from}
use Rattle.scenario.specs.Refusal.{Refuses}
use Rattle.scenario.proofs.Readings.{with_front, regroup}

-- where each line is read like this
module _ (read : Scene → Counts → List (List ℕ) → Result Event Code) where
  pub skips : (front : List Event) (scene : Scene) (n : ℕ) (counts : Counts) (line : List ℕ) (lines : List (List ℕ)) (total : Result (List Event) BadLine)
      → is_skipped line ≡ true
      → with_front front (events_from read scene n counts (line ∷ lines)) ≡ total
      → with_front front (events_from read scene (n + 1) counts lines) ≡ total
  unfolding events_from
  skips front scene n counts line lines total skipped so_far =
      let one : with_front front (events_from read scene n counts (line ∷ lines)) ≡ with_front front (events_from read scene (n + 1) counts lines) = rw skipped refl in
      sym one ∙ so_far

  pub goes_on : (front : List Event) (scene : Scene) (n : ℕ) (counts : Counts) (line : List ℕ) (lines : List (List ℕ)) (event : Event) (total : Result (List Event) BadLine)
      → is_skipped line ≡ false → is_line_of (codes "end") (words_of line) ≡ false
      → at_line n (read scene counts (words_of line)) ≡ Ok event
      → with_front front (events_from read scene n counts (line ∷ lines)) ≡ total
      → with_front (front ++ event ∷ []) (events_from read (scene_after scene event) (n + 1) (counted counts event) lines) ≡ total
  unfolding events_from
  goes_on front scene n counts line lines event total kept other h so_far =
      let one : with_front front (events_from read scene n counts (line ∷ lines)) ≡ with_front (front ++ event ∷ []) (events_from read (scene_after scene event) (n + 1) (counted counts event) lines)
      = rw (kept, other, h) (regroup front event (events_from read (scene_after scene event) (n + 1) (counted counts event) lines)) in
      sym one ∙ so_far

  pub stops : (r : ScenarioRefusal) (front : List Event) (scene : Scene) (n : ℕ) (counts : Counts) (line : List ℕ) (lines : List (List ℕ)) (total : Result (List Event) BadLine)
      → is_skipped line ≡ false → is_line_of (codes "end") (words_of line) ≡ false
      → Refuses r (at_line n (read scene counts (words_of line)))
      → with_front front (events_from read scene n counts (line ∷ lines)) ≡ total → Refuses r total
  unfolding events_from
  stops scenario_refusal.NoMemory front scene n counts line lines total kept other h so_far = tt
  stops (scenario_refusal.BadLine l code) front scene n counts line lines total kept other h so_far =
      let one : with_front front (events_from read scene n counts (line ∷ lines)) ≡ Err (record { line = l; code = code }) = rw (kept, other, h) refl in
      sym so_far ∙ one

  pub ends : (front : List Event) (scene : Scene) (n : ℕ) (counts : Counts) (line : List ℕ) (lines : List (List ℕ)) (total : Result (List Event) BadLine)
      → is_skipped line ≡ false → is_line_of (codes "end") (words_of line) ≡ true → nothing_after (n + 1) lines ≡ Ok tt
      → with_front front (events_from read scene n counts (line ∷ lines)) ≡ total → total ≡ Ok front
  unfolding events_from
  ends front scene n counts line lines total kept last h so_far =
      let one : with_front front (events_from read scene n counts (line ∷ lines)) ≡ Ok front = rw (kept, last, h) (ap (λ (events : List Event). Ok events) (append-nil front)) in
      sym so_far ∙ one

  pub stops_after : (r : ScenarioRefusal) (front : List Event) (scene : Scene) (n : ℕ) (counts : Counts) (line : List ℕ) (lines : List (List ℕ)) (total : Result (List Event) BadLine)
      → is_skipped line ≡ false → is_line_of (codes "end") (words_of line) ≡ true → Refuses r (nothing_after (n + 1) lines)
      → with_front front (events_from read scene n counts (line ∷ lines)) ≡ total → Refuses r total
  unfolding events_from
  stops_after scenario_refusal.NoMemory front scene n counts line lines total kept last h so_far = tt
  stops_after (scenario_refusal.BadLine l code) front scene n counts line lines total kept last h so_far =
      let one : with_front front (events_from read scene n counts (line ∷ lines)) ≡ Err (record { line = l; code = code }) = rw (kept, last, h) refl in
      sym so_far ∙ one

  pub lacks_end : (front : List Event) (scene : Scene) (n : ℕ) (counts : Counts) (total : Result (List Event) BadLine)
      → with_front front (events_from read scene n counts []) ≡ total → total ≡ Err (record { line = n; code = number_of bad.Syntax })
  unfolding events_from
  lacks_end front scene n counts total so_far = sym so_far
