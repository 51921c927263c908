-- The units that are made in a deed or in a step: they are numbered one behind another, and of a unit that is made, an echo
-- request alone is to be answered.
use Rattle.clnp_plan.proofs.ClnpBase.Lists.{AllByRecursion-append, AllByRecursion-contains, AllByRecursion-implies, AllByRecursion-push}
use Rattle.std.proofs.Common.{◌≡◌, refl, subst, ℕ, ◌+◌, ◌≤◌, ◌⊎◌, inl, inr, Bool, true, false, List, [], ◌∷◌, ◌++◌, length, length-append, drop, Contains, arith}
use Rattle.std.specs.Prelude.{nat_lt, if◌then◌else◌}
use Rattle.std.specs.List.{AllByRecursion}
use Rattle.std.proofs.lemmas.Bool.Decides.{nat_tests}
use Rattle.std.proofs.lemmas.List.Elements.{Contains-append_left, Contains-append_right}
use Rattle.clnp_plan.specs.Pdus.declared.pdu_header.kind.Kind.{Kind}
use Rattle.clnp_plan.specs.Pdus.declared.pdu_header.kind.Kind.TheVariants.{Dt, Er, Erq, Erp}
use Rattle.clnp_machine.specs.Unit.{DataUnit}
use Rattle.clnp_machine.specs.System.{SystemState, number_behind}
use Rattle.clnp_machine.specs.Local.{makes, most_pending, with_made, within_most, without_answered}
use Rattle.clnp_machine.specs.EveryStep.{AreNumbered}
use Rattle.clnp_machine.proofs.Kept.{all_contained}

-- units are numbered one behind another, from behind a number up to a last one
abbrev pub RunTo : ℕ → List DataUnit → ℕ → Type 0
RunTo number [] last = last ≡ number
RunTo number (u ∷ units) last = (u.number ≡ number_behind number) × RunTo u.number units last

run_on : (number middle last : ℕ) (units more : List DataUnit) → RunTo number units middle → RunTo middle more last → RunTo number (units ++ more) last
run_on number middle last [] more h k = subst (λ n. RunTo n more last) h k
run_on number middle last (u ∷ units) more h k = (h.0, run_on u.number middle last units more h.1 k)

pub are_numbered : (number last : ℕ) (units : List DataUnit) → RunTo number units last → AreNumbered number units
are_numbered number last [] h = tt
are_numbered number last (u ∷ units) h = (h.0, are_numbered u.number last units h.1)

-- a request was to be answered already, or is made
abbrev pub WasOrMade : List DataUnit → List DataUnit → DataUnit → Type 0
WasOrMade requests units request = Contains requests request ⊎ (Contains units request × (request.kind ≡ Erq))

-- Between two states of a system some units were made, each of which is such as W says.
pub record Makes (W : DataUnit → Type 0) (s t : SystemState) (units : List DataUnit) : Type 0 where
  pub numbered : RunTo s.count units t.count
  pub few : length s.pending ≤ most_pending → length t.pending ≤ most_pending
  pub pending : AllByRecursion (WasOrMade s.pending units) t.pending
  pub such : AllByRecursion W units

-- Requests that are to be answered.

was_before : (requests units : List DataUnit) → AllByRecursion (WasOrMade requests units) requests
was_before requests units =
    AllByRecursion-implies (Contains requests) (WasOrMade requests units) (λ request there. inl there) requests (all_contained requests)

was_on : (first units more : List DataUnit) (second : List DataUnit) → AllByRecursion (WasOrMade first units) second → (request : DataUnit)
    → WasOrMade second more request → WasOrMade first (units ++ more) request
was_on first units more second all request (inl there) = sooner (AllByRecursion-contains (WasOrMade first units) second request there all)
  where
    sooner : WasOrMade first units request → WasOrMade first (units ++ more) request
    sooner (inl was) = inl was
    sooner (inr made) = inr (Contains-append_left units more request made.0, made.1)
was_on first units more second all request (inr made) = inr (Contains-append_right units more request made.0, made.1)

dropped : {X : Type 0} (P : X → Type 0) (xs : List X) → AllByRecursion P xs → AllByRecursion P (drop 1 xs)
dropped P [] h = tt
dropped P (x ∷ xs) h = h.1

all_within : (P : DataUnit → Type 0) (test : Bool) (requests : List DataUnit) → AllByRecursion P requests → AllByRecursion P (if test then drop 1 requests else requests)
all_within P true requests h = dropped P requests h
all_within P false requests h = h

drop_one : {X : Type 0} (xs : List X) (most : ℕ) → length xs ≤ most + 1 → length (drop 1 xs) ≤ most
drop_one [] most h = omega arith
drop_one (x ∷ xs) most h = omega arith

few_within : (requests : List DataUnit) → length requests ≤ 9 → length (within_most requests) ≤ most_pending
few_within requests h = go (nat_lt most_pending (length requests)) refl
  where
    go : (test : Bool) → nat_lt most_pending (length requests) ≡ test → length (if test then drop 1 requests else requests) ≤ 8
    go true e = drop_one requests 8 h
    go false e = grind (arith, nat_tests)

all_unanswered : (P : DataUnit → Type 0) (is_answered : DataUnit → Bool) (requests : List DataUnit) → AllByRecursion P requests
    → AllByRecursion P (without_answered is_answered requests)
all_unanswered P is_answered [] h = tt
all_unanswered P is_answered (request ∷ later) h = go (is_answered request) (all_unanswered P is_answered later h.1)
  where
    go : (test : Bool) → AllByRecursion P (without_answered is_answered later)
        → AllByRecursion P (if test then later else request ∷ without_answered is_answered later)
    go true less = h.1
    go false less = (h.0, less)

few_unanswered : (is_answered : DataUnit → Bool) (requests : List DataUnit) → length (without_answered is_answered requests) ≤ length requests
few_unanswered is_answered [] = omega arith
few_unanswered is_answered (request ∷ later) = go (is_answered request) (few_unanswered is_answered later)
  where
    go : (test : Bool) → length (without_answered is_answered later) ≤ length later
        → length (if test then later else request ∷ without_answered is_answered later) ≤ length (request ∷ later)
    go true few = omega arith
    go false few = omega arith

few_made : (kind : Kind) (requests : List DataUnit) (u : DataUnit) → length requests ≤ most_pending → length (with_made kind requests u) ≤ most_pending
few_made Erq requests u h = let more = length-append requests (u ∷ []) in few_within (requests ++ u ∷ []) (omega arith)
few_made Dt requests u h = h
few_made Er requests u h = h
few_made Erp requests u h = h

pending_made : (kind : Kind) (requests : List DataUnit) (u : DataUnit) → u.kind ≡ kind
    → AllByRecursion (WasOrMade requests (u ∷ [])) (with_made kind requests u)
pending_made Erq requests u is =
    all_within (WasOrMade requests (u ∷ [])) (nat_lt most_pending (length (requests ++ u ∷ []))) (requests ++ u ∷ [])
    (AllByRecursion-push (WasOrMade requests (u ∷ [])) requests u (was_before requests (u ∷ [])) (inr ((0, omega arith, refl), is)))
pending_made Dt requests u is = was_before requests (u ∷ [])
pending_made Er requests u is = was_before requests (u ∷ [])
pending_made Erp requests u is = was_before requests (u ∷ [])

module _ (W : DataUnit → Type 0) where
  -- none is made, and no request is answered
  pub makes_none : (s t : SystemState) → t.count ≡ s.count → t.pending ≡ s.pending → Makes W s t []
  makes_none s t count pending = record {
    numbered = count;
    few = λ h. rw pending h;
    pending = rw pending (was_before s.pending []);
    such = tt;
  }

  -- a request is answered
  pub makes_answered : (s : SystemState) (is_answered : DataUnit → Bool) → Makes W s (record s { pending = without_answered is_answered s.pending }) []
  makes_answered s is_answered = record {
    numbered = refl;
    few = λ h. let less = few_unanswered is_answered s.pending in omega arith;
    pending = all_unanswered (WasOrMade s.pending []) is_answered s.pending (was_before s.pending []);
    such = tt;
  }

  -- the requests are forgotten
  pub makes_forgotten : (s t : SystemState) → t.count ≡ s.count → t.pending ≡ [] → Makes W s t []
  makes_forgotten s t count none = record {
    numbered = count;
    few = λ h. rw none (omega arith);
    pending = rw none tt;
    such = tt;
  }

  -- one is made
  pub makes_one : (s : SystemState) (u : DataUnit) → u.number ≡ number_behind s.count → W u → Makes W s (makes s u).after (u ∷ [])
  makes_one s u number is = record {
    numbered = (number, refl);
    few = λ h. few_made u.kind s.pending u h;
    pending = pending_made u.kind s.pending u refl;
    such = (is, tt);
  }

  -- some are made, and then some more
  pub makes_both : (s t v : SystemState) (units more : List DataUnit) → Makes W s t units → Makes W t v more → Makes W s v (units ++ more)
  makes_both s t v units more h k = record {
    numbered = run_on s.count t.count v.count units more h.numbered k.numbered;
    few = λ most. k.few (h.few most);
    pending =
        AllByRecursion-implies (WasOrMade t.pending more) (WasOrMade s.pending (units ++ more)) (was_on s.pending units more t.pending h.pending) v.pending k.pending;
    such = AllByRecursion-append W units more h.such k.such;
  }
