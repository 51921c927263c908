-- The requests that are to be answered are the last that were made, but for those that were answered.
use Rattle.std.proofs.Common.{◌≡◌, ◌∙◌, refl, sym, ap, ℕ, ◌-◌, ◌≤◌, Bool, true, false, List, [], ◌∷◌, ◌++◌, append-nil, length, length-append, drop, Option, None, Some, arith}
use Rattle.std.specs.Prelude.{nat_lt, if◌then◌else◌}
use Rattle.std.specs.List.{AllByRecursion, find}
use Rattle.std.proofs.lemmas.Bool.{ltb-false, ltb-true}
use Rattle.clnp_plan.specs.Pdus.declared.pdu_header.kind.Kind.TheVariants.{Dt}
use Rattle.clnp_plan.specs.declared.ask.Ask.{Ask}
use Rattle.clnp_plan.specs.declared.note.Note.{Note}
use Rattle.clnp_plan.specs.declared.note.Note.TheVariants.{Echoed, Stray}
use Rattle.clnp_machine.specs.Unit.{DataUnit}
use Rattle.clnp_machine.specs.System.{SystemState, AsksForEcho, AsksToSend}
use Rattle.clnp_machine.specs.Local.{is_answer, is_replied, made_in, refusal, request_unit, takes_reply, tells, unit_of, unless_refused, within_most, without_answered}
use Rattle.clnp_machine.specs.Step.{step}
use Rattle.clnp_machine.specs.Requests.{AnswersNone, AnswersOldest, newest}

within_is : (requests : List DataUnit) → length requests ≤ 9 → within_most requests ≡ newest 8 requests
within_is requests few = go (nat_lt 8 (length requests)) refl
  where
    go : (test : Bool) → nat_lt 8 (length requests) ≡ test → (if test then drop 1 requests else requests) ≡ newest 8 requests
    go true e =
        let many = ltb-true 8 (length requests) e in
        let one : 1 ≡ length requests - 8 = omega arith in
        ap (λ (n : ℕ). drop n requests) one
    go false e =
        let least = ltb-false 8 (length requests) e in
        let none : 0 ≡ length requests - 8 = omega arith in
        ap (λ (n : ℕ). drop n requests) none

few_are : (requests : List DataUnit) → length requests ≤ 8 → requests ≡ newest 8 requests
few_are requests few = let none : 0 ≡ length requests - 8 = omega arith in ap (λ (n : ℕ). drop n requests) none

pub newest_pending : (s : SystemState) (from to octets : List ℕ) → length s.pending ≤ 8
    → (step s (AsksForEcho from to octets)).after.pending ≡ newest 8 (s.pending ++ (step s (AsksForEcho from to octets)).units)
newest_pending s from to octets few = go (refusal s (request_unit s from to octets))
  where
    go : (refused : Option Note)
        → (unless_refused refused s (request_unit s from to octets)).after.pending
        ≡ newest 8 (s.pending ++ made_in (unless_refused refused s (request_unit s from to octets)).actions)
    go None =
        let u = request_unit s from to octets in
        let size = length-append s.pending (u ∷ []) in
        within_is (s.pending ++ u ∷ []) (omega arith)
    go (Some told) = few_are s.pending few ∙ ap (newest 8) (sym (append-nil s.pending))

pub pending_stays : (s : SystemState) (from to octets : List ℕ) (ask : Ask) → (step s (AsksToSend from to octets ask)).after.pending ≡ s.pending
pending_stays s from to octets ask = go (refusal s (unit_of s Dt from to octets ask))
  where
    go : (refused : Option Note) → (unless_refused refused s (unit_of s Dt from to octets ask)).after.pending ≡ s.pending
    go None = refl
    go (Some told) = refl

-- Replies.

module _ (is : DataUnit → Bool) where
  abbrev pub NoneIs : List DataUnit → Type 0
  NoneIs requests = AllByRecursion (λ request. is request ≡ false) requests

  finds_none : (requests : List DataUnit) → NoneIs requests → find is requests ≡ None
  finds_none [] none = refl
  finds_none (request ∷ requests) none = rw none.0 (finds_none requests none.1)

  finds_first : (before : List DataUnit) (request : DataUnit) (behind : List DataUnit) → NoneIs before → is request ≡ true
      → find is (before ++ request ∷ behind) ≡ Some request
  finds_first [] request behind none it = rw it refl
  finds_first (other ∷ before) request behind none it = rw none.0 (finds_first before request behind none.1 it)

  takes_first : (before : List DataUnit) (request : DataUnit) (behind : List DataUnit) → NoneIs before → is request ≡ true
      → without_answered is (before ++ request ∷ behind) ≡ before ++ behind
  takes_first [] request behind none it = rw it refl
  takes_first (other ∷ before) request behind none it =
      rw none.0 (ap (λ (later : List DataUnit). other ∷ later) (takes_first before request behind none.1 it))

module _ (s : SystemState) (source destination octets : List ℕ) where
  abbrev answers : DataUnit → Bool
  answers = is_answer source destination octets

  pub reply_is_stray : AnswersNone source destination octets s.pending → is_replied s source destination octets ≡ tells s (Stray source destination)
  reply_is_stray none = ap (takes_reply s source destination octets) (finds_none answers s.pending none)

  pub oldest_answered : (before : List DataUnit) (request : DataUnit) (behind : List DataUnit)
      → AnswersOldest source destination octets s.pending before request behind
      → is_replied s source destination octets ≡ tells (record s { pending = before ++ behind }) (Echoed source destination request.number)
  oldest_answered before request behind h =
      let found : find answers s.pending ≡ Some request =
      ap (find answers) h.among ∙ finds_first answers before request behind h.none_before h.answers in
      let left : without_answered answers s.pending ≡ before ++ behind =
      ap (without_answered answers) h.among ∙ takes_first answers before request behind h.none_before h.answers in
      ap (takes_reply s source destination octets) found
      ∙ ap (λ (requests : List DataUnit). tells (record s { pending = requests }) (Echoed source destination request.number)) left
