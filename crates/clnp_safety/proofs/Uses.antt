-- Uses of identifiers: where one may be drawn, each earlier use of it is long ago.
use Rattle.clnp_machine.proofs.ClnpBase.Lists.{AllByRecursion-implies, pairs_behind}
use Rattle.std.proofs.Common.{◌≡◌, ℕ, zero, suc, ◌+◌, ◌<◌, ◌≤◌, inl, inr, List, [], ◌∷◌, ◌++◌, length, get_or, Option, None, Some, AllPairs, Contains, refl, sym, ap, subst, ◌∙◌, arith}
use Rattle.std.specs.List.{AllByRecursion}
use Rattle.std.specs.Option.{option_or}
use Rattle.std.proofs.lemmas.Bool.Decides.{nat_tests}
use Rattle.std.proofs.lemmas.List.Elements.{All-from_recursion, recursion_from_All, All-push, Contains-append_left, Contains-push}
use Rattle.std.proofs.lemmas.List.Quantifiers.{all_pairs_push}
use Rattle.clnp_machine.specs.Identifiers.{Use, Identifiers, last_use, next, busy, not_drawn, after_use}
use Rattle.clnp_machine.specs.Unit.{DataUnit}
use Rattle.clnp_safety.specs.Invariant.{AreUsesUntil, IsAccounted, IsInUses}
use Rattle.clnp_machine.proofs.Resting.{busy_rested, moment_for, moment_there, past_quiet}

abbrev InOrder : Use → Use → Type 0
InOrder earlier later = earlier.moment ≤ later.moment

moment_is : (identifier latest : ℕ) (given : Use) → moment_for identifier given ≡ Some latest → given.moment ≡ latest
moment_is identifier latest given found = grind (arith, nat_tests)

last_step : (identifier moment latest : ℕ) (first : Use) (found : Option ℕ) → moment ≤ first.moment → (found ≡ Some latest → moment ≤ latest)
    → option_or found (moment_for identifier first) ≡ Some latest → moment ≤ latest
last_step identifier moment latest first None least before last = let same = moment_is identifier latest first last in omega arith
last_step identifier moment latest first (Some other) least before last = before last

-- the last use of an identifier is no earlier than all uses are
last_from : (identifier moment latest : ℕ) (uses : List Use) → AllByRecursion (λ given. moment ≤ given.moment) uses
    → last_use identifier uses ≡ Some latest → moment ≤ latest
last_from identifier moment latest [] h last = absurd (cc)
last_from identifier moment latest (first ∷ later) h last =
    last_step identifier moment latest first (last_use identifier later) h.0 (last_from identifier moment latest later h.1) last

first_rests : (now reuse identifier : ℕ) (first : Use) (found : Option ℕ) → first.identifier ≡ identifier
    → ((latest : ℕ) → found ≡ Some latest → first.moment ≤ latest)
    → busy now reuse (option_or found (moment_for identifier first)) ≡ None → first.moment + reuse ≤ now
first_rests now reuse identifier first None same before idle =
    busy_rested now reuse first.moment (ap (busy now reuse) (sym (moment_there identifier first same)) ∙ idle)
first_rests now reuse identifier first (Some latest) same before idle =
    let rest = busy_rested now reuse latest idle in
    let last = before latest refl in
    omega arith

later_idle : (now reuse : ℕ) (found other : Option ℕ) → busy now reuse (option_or found other) ≡ None → busy now reuse found ≡ None
later_idle now reuse None other idle = refl
later_idle now reuse (Some latest) other idle = idle

-- an identifier that isn't busy was used long ago, each time
rests_at : (now reuse identifier : ℕ) (uses : List Use) (place : ℕ) (given : Use) → AllPairs InOrder uses
    → place < length uses → get_or uses place given ≡ given → given.identifier ≡ identifier
    → busy now reuse (last_use identifier uses) ≡ None → given.moment + reuse ≤ now
rests_at now reuse identifier [] place given order within there same idle = absurd (omega arith)
rests_at now reuse identifier (first ∷ later) zero given order within there same idle =
    let behind = recursion_from_All (InOrder first) later (λ k d lt. order 0 (suc k) d (omega arith) (omega arith)) in
    let rest = first_rests now reuse identifier first (last_use identifier later) (ap (λ (g : Use). g.identifier) there ∙ same)
    (λ latest last. last_from identifier first.moment latest later behind last) idle in
    let at : first.moment ≡ given.moment = ap (λ (g : Use). g.moment) there in
    omega arith
rests_at now reuse identifier (first ∷ later) (suc place) given order within there same idle =
    rests_at now reuse identifier later place given (pairs_behind InOrder (first ∷ []) later order) (omega arith) there same
    (later_idle now reuse (last_use identifier later) (moment_for identifier first) idle)

-- where an identifier may be drawn, the units that had it were made long ago
pub made_long_ago : (now : ℕ) (ids : Identifiers) (u : DataUnit) → AreUsesUntil now ids.uses → IsInUses ids u
    → u.identifier ≡ Some (next ids) → not_drawn now ids ≡ None → u.made + ids.reuse ≤ now
made_long_ago now ids u uses used identified idle =
    let free = past_quiet now ids.quiet (busy now ids.reuse (last_use (next ids) ids.uses)) idle in
    let given : Use = record { identifier = next ids; moment = u.made } in
    elim (used (next ids) identified) [
      | inl has ↦ rests_at now ids.reuse (next ids) ids.uses has.0 given uses.in_order has.1 has.2 refl free.1
      | inr before ↦ (let quiet : ids.quiet ≤ now = free.0 in omega arith)
    ]

-- uses until a moment are uses until a later one
pub uses_later : (before now : ℕ) (uses : List Use) → before ≤ now → AreUsesUntil before uses → AreUsesUntil now uses
uses_later before now uses later are = record {
  until_now = AllByRecursion-implies (λ (given : Use). given.moment ≤ before) (λ (given : Use). given.moment ≤ now) (λ given h. omega arith) uses are.until_now;
  in_order = are.in_order;
}

-- and so it is of units
pub accounted_later : (before now : ℕ) (ids : Identifiers) (u : DataUnit) → before ≤ now → IsAccounted before ids u → IsAccounted now ids u
accounted_later before now ids u later was = record { made = let made = was.made in omega arith; used = was.used }

-- one more use, at this moment
pub uses_after : (now : ℕ) (ids : Identifiers) → AreUsesUntil now ids.uses → AreUsesUntil now (after_use now ids).uses
uses_after now ids h =
    let latest : Use = record { identifier = next ids; moment = now } in
    let all = All-from_recursion (λ (given : Use). given.moment ≤ now) ids.uses h.until_now in
    record {
      until_now = recursion_from_All (λ (given : Use). given.moment ≤ now) (ids.uses ++ latest ∷ [])
          (All-push (λ (given : Use). given.moment ≤ now) ids.uses latest all (omega arith));
      in_order = all_pairs_push InOrder ids.uses latest h.in_order (λ k d within. all k d within);
    }

pub used_before : (now : ℕ) (ids : Identifiers) (u : DataUnit) → IsInUses ids u → IsInUses (after_use now ids) u
used_before now ids u used identifier identified =
    let latest : Use = record { identifier = next ids; moment = now } in
    elim (used identifier identified) [
      | inl has ↦ inl (Contains-append_left ids.uses (latest ∷ []) (record { identifier = identifier; moment = u.made }) has)
      | inr before ↦ inr before
    ]

pub used_now : (now : ℕ) (ids : Identifiers) (u : DataUnit) → u.identifier ≡ Some (next ids) → u.made ≡ now → IsInUses (after_use now ids) u
used_now now ids u drawn made identifier identified =
    let latest : Use = record { identifier = next ids; moment = now } in
    let same : Some (next ids) ≡ Some identifier = sym drawn ∙ identified in
    let number : next ids ≡ identifier = cc in
    let use_of : ℕ → ℕ → Use = λ i m. record { identifier = i; moment = m } in
    inl (subst (λ m. Contains (ids.uses ++ latest ∷ []) (use_of identifier m)) (sym made)
    (subst (λ i. Contains (ids.uses ++ latest ∷ []) (use_of i now)) number (Contains-push ids.uses latest)))
