-- An opening whose time ends at a moment before which no time ends.
use Rattle.std.proofs.Common.{◌≡◌, ◌∙◌, ℕ, zero, suc, ◌==◌, ◌≢◌, ◌<◌, ◌≤◌, false, List, [], ◌∷◌, Option, Some, None, IfSome, take, sym, inl, inr, arith}
use Rattle.std.specs.List.{AllByRecursion, list_any, position_from}
use Rattle.std.proofs.lemmas.Bool.{cases_Bool, false≢true}
use Rattle.std.proofs.lemmas.List.Elements.{All-from_recursion}
use Rattle.std.proofs.lemmas.Option.{get_or_from_slice_get}
use Rattle.pdus.proofs.ClnpBase.Choices.{equal_is, is_equal}
use Rattle.pdus.proofs.ClnpBase.Found.{is_first}
use Rattle.pdus.proofs.ClnpBase.Lists.{AllByRecursion-implies, slice_get_some}
use Rattle.system_tables.specs.declared.reassembly.openings.Opening.{Opening}
use Rattle.system_tables.specs.Reassembly.Openings.{IsSoonest}

-- of openings whose time ends from a moment on, and not at it, it ends later
later : (moment : ℕ) (opening : Opening) → (opening.deadline == moment) ≡ false → moment ≤ opening.deadline → moment < opening.deadline
later moment opening f from =
    let differs : opening.deadline ≢ moment = λ e. false≢true (sym f ∙ equal_is opening.deadline moment e) in
    omega (arith, differs, from)

all_later : (moment : ℕ) (openings : List Opening) → AllByRecursion (λ opening. moment ≤ opening.deadline) openings
    → list_any (λ opening. opening.deadline == moment) openings ≡ false → AllByRecursion (λ opening. moment < opening.deadline) openings
all_later moment [] from none = tt
all_later moment (first ∷ others) from none =
    elim (cases_Bool (first.deadline == moment)) [
      | inl t ↦ absurd (let h = rw t at none in cc)
      | inr f ↦ (later moment first f from.0, all_later moment others from.1 (rw f at none))
    ]

first_part : (moment : ℕ) (openings : List Opening) (place : ℕ) → AllByRecursion (λ opening. moment ≤ opening.deadline) openings
    → AllByRecursion (λ opening. moment ≤ opening.deadline) (take place openings)
first_part moment openings zero from = tt
first_part moment [] (suc place) from = tt
first_part moment (first ∷ others) (suc place) from = (from.0, first_part moment others place from.1)

soonest_there : (moment place : ℕ) (openings : List Opening) → AllByRecursion (λ opening. moment ≤ opening.deadline) openings
    → position_from (λ opening. opening.deadline == moment) 0 openings ≡ Some place → IsSoonest openings place
soonest_there moment place openings from e =
    let first = is_first (λ opening. opening.deadline == moment) place openings e in
    let there = slice_get_some openings place first.within in
    let opening = there.0 in
    let at : opening.deadline ≡ moment = is_equal opening.deadline moment (first.passes opening (sym (get_or_from_slice_get openings place opening opening there.1))) in (
      opening,
      there.1,
      All-from_recursion (λ other. opening.deadline ≤ other.deadline) openings
          (AllByRecursion-implies (λ other. moment ≤ other.deadline) (λ other. opening.deadline ≤ other.deadline) (λ other h. omega (arith, h, at)) openings from),
      All-from_recursion (λ other. opening.deadline < other.deadline) (take place openings)
          (AllByRecursion-implies (λ other. moment < other.deadline) (λ other. opening.deadline < other.deadline) (λ other h. omega (arith, h, at)) (take place openings)
          (all_later moment (take place openings) (first_part moment openings place from) first.before)),
    )

pub is_soonest : (moment : ℕ) (openings : List Opening) (place : Option ℕ) → AllByRecursion (λ opening. moment ≤ opening.deadline) openings
    → place ≡ position_from (λ opening. opening.deadline == moment) 0 openings → IfSome place (IsSoonest openings)
is_soonest moment openings None from e = tt
is_soonest moment openings (Some place) from e = soonest_there moment place openings from (sym e)
