-- Identifiers rest between their uses.
use Rattle.std.proofs.Common.{◌≡◌, ℕ, zero, suc, ◌+◌, ◌<◌, ◌≤◌, List, [], ◌∷◌, length, get_or, Option, Some, None, slice_get, refl, sym, ap, subst, ◌∙◌, arith}
use Rattle.std.proofs.lemmas.Bool.Decides.{nat_tests}
use Rattle.std.proofs.lemmas.Option.{slice_get_within, slice_get-get_or, get_or_from_slice_get}
use Rattle.std.proofs.lemmas.List.Quantifiers.{all_pairs_push}
use Rattle.std.specs.Option.{option_or}
use Rattle.clnp_machine.specs.Identifiers.{Use, Identifiers, NotDrawn, IsQuiet, last_use, next, busy, not_drawn, after_drawing, drawn, opening}
use Rattle.clnp_systems.specs.Apart.{IsLater, AreApart, drawn_at}
use Rattle.clnp_systems.proofs.Uses.{moment_for, moment_there}
use Rattle.clnp_systems.proofs.Uses.{busy_rested, past_quiet}

pub quiet_time : (now : ℕ) (ids : Identifiers) → now < ids.quiet → not_drawn now ids ≡ Some (IsQuiet ids.quiet)
quiet_time now ids early = grind (arith, nat_tests)

pub quiet_over : (now : ℕ) (ids : Identifiers) → not_drawn now ids ≡ None → ids.quiet ≤ now
quiet_over now ids idle = (past_quiet now ids.quiet (busy now ids.reuse (last_use (next ids) ids.uses)) idle).0

pub rested : (now : ℕ) (ids : Identifiers) → not_drawn now ids ≡ None → (used : ℕ) → last_use (next ids) ids.uses ≡ Some used → used + ids.reuse ≤ now
rested now ids idle used last =
    let not_busy = (past_quiet now ids.quiet (busy now ids.reuse (last_use (next ids) ids.uses)) idle).1 in
    busy_rested now ids.reuse used (sym (ap (λ found. busy now ids.reuse found) last) ∙ not_busy)

-- a use of this identifier at this moment stands in the list
pub record StandsIn (identifier moment : ℕ) (uses : List Use) : Type 0 where
  pub place : ℕ
  pub given : Use
  pub there : slice_get uses place ≡ Some given
  pub identifier_is : given.identifier ≡ identifier
  pub moment_is : given.moment ≡ moment

stands_first : (identifier moment : ℕ) (first : Use) (later : List Use) → moment_for identifier first ≡ Some moment → StandsIn identifier moment (first ∷ later)
stands_first identifier moment first later found =
    let both : (first.identifier ≡ identifier) × (first.moment ≡ moment) = grind (arith, nat_tests) in
    record { place = 0; given = first; there = refl; identifier_is = both.0; moment_is = both.1 }

last_in : (identifier moment : ℕ) (first : Use) (later : List Use) (found : Option ℕ) → last_use identifier later ≡ found
    → option_or found (moment_for identifier first) ≡ Some moment
    → (last_use identifier later ≡ Some moment → StandsIn identifier moment later) → StandsIn identifier moment (first ∷ later)
last_in identifier moment first later None e last before = stands_first identifier moment first later last
last_in identifier moment first later (Some latest) e last before =
    let found = before (e ∙ last) in
    record { place = suc found.place; given = found.given; there = found.there; identifier_is = found.identifier_is; moment_is = found.moment_is }

-- the last use of an identifier is one of its uses
last_is_there : (identifier moment : ℕ) (uses : List Use) → last_use identifier uses ≡ Some moment → StandsIn identifier moment uses
last_is_there identifier moment [] last = absurd (cc)
last_is_there identifier moment (first ∷ later) last =
    last_in identifier moment first later (last_use identifier later) refl last (last_is_there identifier moment later)

apart_at : (reuse : ℕ) (uses : List Use) (i j : ℕ) (earlier later : Use) → AreApart reuse uses → i < j
    → slice_get uses i ≡ Some earlier → slice_get uses j ≡ Some later → IsLater reuse earlier later
apart_at reuse uses i j earlier later apart before at_i at_j =
    let P : Use → Type 0 = λ given. IsLater reuse given (get_or uses j earlier) in
    let Q : Use → Type 0 = λ given. IsLater reuse earlier given in
    let within : j < length uses = slice_get_within uses j later at_j in
    subst Q (get_or_from_slice_get uses j later earlier at_j)
    (subst P (get_or_from_slice_get uses i earlier earlier at_i) (apart i j earlier before within))

apart_rest : (reuse : ℕ) (first : Use) (rest : List Use) → AreApart reuse (first ∷ rest) → AreApart reuse rest
apart_rest reuse first rest apart i j given before within = apart (suc i) (suc j) given (omega arith) (omega arith)

-- the last use of an identifier isn't before this moment
pub record LastFrom (identifier moment : ℕ) (uses : List Use) : Type 0 where
  pub latest : ℕ
  pub last : last_use identifier uses ≡ Some latest
  pub not_before : moment ≤ latest

first_before_last : (reuse : ℕ) (first : Use) (rest : List Use) (found : Option ℕ) → last_use first.identifier rest ≡ found
    → AreApart reuse (first ∷ rest) → LastFrom first.identifier first.moment (first ∷ rest)
first_before_last reuse first rest None e apart =
    record {
      latest = first.moment;
      last = ap (λ found. option_or found (moment_for first.identifier first)) e ∙ moment_there first.identifier first refl;
      not_before = omega arith;
    }
first_before_last reuse first rest (Some latest) e apart =
    let found = last_is_there first.identifier latest rest e in
    let later : first.moment + reuse ≤ found.given.moment =
    apart_at reuse (first ∷ rest) 0 (suc found.place) first found.given apart (omega arith) refl found.there (sym found.identifier_is) in
    record {
      latest = latest;
      last = ap (λ found. option_or found (moment_for first.identifier first)) e;
      not_before = (let same : found.given.moment ≡ latest = found.moment_is in omega arith);
    }

used_before_last : (reuse : ℕ) (uses : List Use) (i : ℕ) (given : Use) → AreApart reuse uses → slice_get uses i ≡ Some given
    → LastFrom given.identifier given.moment uses
used_before_last reuse [] i given apart there = absurd (cc)
used_before_last reuse (first ∷ rest) zero given apart there =
    let same : first ≡ given = cc in
    let P : Use → Type 0 = λ one. LastFrom one.identifier one.moment (first ∷ rest) in
    subst P same (first_before_last reuse first rest (last_use first.identifier rest) refl apart)
used_before_last reuse (first ∷ rest) (suc i) given apart there =
    let found = used_before_last reuse rest i given (apart_rest reuse first rest apart) there in
    record {
      latest = found.latest;
      last = ap (λ o. option_or o (moment_for given.identifier first)) found.last;
      not_before = found.not_before;
    }

apart_after : (now : ℕ) (ids : Identifiers) (outcome : Option NotDrawn) → not_drawn now ids ≡ outcome → AreApart ids.reuse ids.uses
    → AreApart ids.reuse (after_drawing outcome now ids).uses
apart_after now ids (Some refusal) e apart = apart
apart_after now ids None idle apart =
    let latest : Use = record { identifier = next ids; moment = now } in
    all_pairs_push (IsLater ids.reuse) ids.uses latest apart
    (λ (i : ℕ) (given : Use) (within : i < length ids.uses) (same : (get_or ids.uses i given).identifier ≡ next ids).
    let found = used_before_last ids.reuse ids.uses i (get_or ids.uses i given) apart (slice_get-get_or ids.uses i given within) in
    let last : last_use (next ids) ids.uses ≡ Some found.latest = ap (λ n. last_use n ids.uses) (sym same) ∙ found.last in
    let rest : found.latest + ids.reuse ≤ now = rested now ids idle found.latest last in
    let before : (get_or ids.uses i given).moment ≤ found.latest = found.not_before in
    omega arith)

-- uses of one identifier that were apart still are after a drawing
pub apart_kept : (now : ℕ) (ids : Identifiers) → AreApart ids.reuse ids.uses → AreApart ids.reuse (drawn now ids).uses
apart_kept now ids apart = apart_after now ids (not_drawn now ids) refl apart

same_reuse : (now : ℕ) (ids : Identifiers) (outcome : Option NotDrawn) → ids.reuse ≡ (after_drawing outcome now ids).reuse
same_reuse now ids None = refl
same_reuse now ids (Some refusal) = refl

apart_in_time : (moments : List ℕ) (ids : Identifiers) → AreApart ids.reuse ids.uses → AreApart ids.reuse (drawn_at moments ids).uses
apart_in_time [] ids apart = apart
apart_in_time (now ∷ later) ids apart =
    let e : ids.reuse ≡ (drawn now ids).reuse = same_reuse now ids (not_drawn now ids) in
    let P : ℕ → Type 0 = λ reuse. AreApart reuse (drawn now ids).uses in
    let Q : ℕ → Type 0 = λ reuse. AreApart reuse (drawn_at later (drawn now ids)).uses in
    subst Q (sym e) (apart_in_time later (drawn now ids) (subst P e (apart_kept now ids apart)))

pub apart_always : (reuse quiet : ℕ) (moments : List ℕ) → AreApart reuse (drawn_at moments (opening reuse quiet)).uses
apart_always reuse quiet moments = apart_in_time moments (opening reuse quiet) (λ i j given before within. absurd (omega arith))
