-- What is kept over frames: the numbers of a table, and that no buffer is whole.
use Rattle.std.proofs.Common.{◌≡◌, ◌+◌, ◌<◌, ◌≤◌, ℕ, zero, suc, ◌==◌, List, [], ◌∷◌, length, map, sum, get_or, Option, None, Some, refl, sym, ap, ◌∙◌, subst, arith}
use Rattle.std.specs.Prelude.{fold, slice_get, unwrap_or}
use Rattle.std.proofs.lemmas.List.{length-map}
use Rattle.std.proofs.lemmas.List.FromFn.{fill_by_all}
use Rattle.pdus.proofs.ClnpBase.Choices.{one_of}
use Rattle.pdus.proofs.ClnpBase.Sums.{sum_cons}
use Rattle.pdus.specs.ClnpViews.Extent.{Extent}
use Rattle.pdus.specs.PduHeader.Value.{PduValue, SegmentationPart}
use Rattle.system_tables.specs.declared.reassembly.segment.Key.{Key}
use Rattle.system_tables.specs.declared.reassembly.segment.Segment.{Segment}
use Rattle.system_tables.specs.declared.reassembly.table.TableLimits.{TableLimits}
use Rattle.system_tables.specs.Reassembly.Arrival.{arrival_of}
use Rattle.system_tables.specs.Reassembly.Buffer as buffer
use Rattle.system_tables.specs.Reassembly.Buffer.{Answer, Buffer, after, answer, due, held, without}
use Rattle.system_tables.specs.Reassembly.Claims.{KeepTo, NoneIsWhole}
use Rattle.system_tables.proofs.ReassemblyFacts.Shared.{kept_within, none_whole-after, none_whole-released, none_whole-without, without_within}
use Rattle.system_tables.specs.FairReassembly.Claims.{budget_of_all, held_by_all, places_of}
use Rattle.system_tables.specs.declared.fair_reassembly.came.Came.{Came}
use Rattle.system_tables.specs.declared.fair_reassembly.share.Share.{Share}
use Rattle.system_tables.specs.FairReassembly.Classes.{Effect, Shares, arrives, buffers_behind, class_buffers, comes, ends_due, expire, frames_of, limits_at, offers, takes, takes_in}
use Rattle.system_tables.specs.FairReassembly.Tables.{limits_of}
use Rattle.system_tables.specs.FairReassembly.Coming.{part_of, segment_in, value_in}

pub fold_keeps : {A B : Type 0} (P : B → Type 0) (f : B → A → B) → ((b : B) (x : A) → P b → P (f b x)) → (b : B) → P b → (xs : List A) → P (fold f b xs)
fold_keeps P f keeps b h [] = h
fold_keeps P f keeps b h (x ∷ xs) = fold_keeps P f keeps (f b x) (keeps b x h) xs

-- what stays so where buffers are taken out and segments are offered
module _ (P : List (Buffer Extent) → Type 0) (without_keeps : (key : Key) (buffers : List (Buffer Extent)) → P buffers → P (without key buffers)) where
  expire_due-keeps : (found : Option (Buffer Extent)) (next : List (Buffer Extent) → Effect) → ((buffers : List (Buffer Extent)) → P buffers → P (next buffers).buffers)
      → (buffers : List (Buffer Extent)) → P buffers → P (ends_due found next buffers).buffers
  expire_due-keeps None next keeps buffers h = h
  expire_due-keeps (Some ended) next keeps buffers h = keeps (without ended.key buffers) (without_keeps ended.key buffers h)

  pub expire-keeps : (most now : ℕ) (buffers : List (Buffer Extent)) → P buffers → P (expire most now buffers).buffers
  expire-keeps zero now buffers h = h
  expire-keeps (suc most) now buffers h =
      expire_due-keeps (due now buffers) (expire most now) (λ left k. expire-keeps most now left k) buffers h

  takes_in-keeps : (v : PduValue) (part : SegmentationPart) (key : Key) (told : Answer) (buffers : List (Buffer Extent))
      → (told ≡ buffer.Whole → P (without key buffers)) → ((told ≡ buffer.Whole → ⊥) → P buffers) → P (takes_in v part key told buffers).buffers
  takes_in-keeps v part key buffer.Held buffers whole other = other (λ e. cc)
  takes_in-keeps v part key buffer.Whole buffers whole other = whole refl
  takes_in-keeps v part key buffer.Repeat buffers whole other = other (λ e. cc)
  takes_in-keeps v part key (buffer.Interference kept offered) buffers whole other = other (λ e. cc)
  takes_in-keeps v part key (buffer.NoSlot live) buffers whole other = other (λ e. cc)
  takes_in-keeps v part key (buffer.Crowded held size) buffers whole other = other (λ e. cc)
  takes_in-keeps v part key (buffer.Many kept) buffers whole other = other (λ e. cc)

  -- where it stays so when a segment is offered, and the buffer that it makes whole is taken out
  module _ (limits : TableLimits)
      (whole_keeps : (now : ℕ) (segment : Segment) (buffers : List (Buffer Extent)) → P buffers
      → answer limits now (arrival_of segment) buffers ≡ buffer.Whole → P (without segment.key (after limits now (arrival_of segment) buffers)))
      (after_keeps : (now : ℕ) (segment : Segment) (buffers : List (Buffer Extent)) → P buffers
      → (answer limits now (arrival_of segment) buffers ≡ buffer.Whole → ⊥) → P (after limits now (arrival_of segment) buffers)) where
    offers-keeps : (now : ℕ) (v : PduValue) (part : SegmentationPart) (segment : Segment) (buffers : List (Buffer Extent)) → P buffers
        → P (offers limits now v part segment buffers).buffers
    offers-keeps now v part segment buffers h =
        takes_in-keeps v part segment.key (answer limits now (arrival_of segment) buffers) (after limits now (arrival_of segment) buffers)
        (whole_keeps now segment buffers h) (after_keeps now segment buffers h)

    takes-keeps : (came : Came) (v : PduValue) (part : Option SegmentationPart) (buffers : List (Buffer Extent)) → P buffers
        → P (takes limits came v part buffers).buffers
    takes-keeps came v None buffers h = h
    takes-keeps came v (Some part) buffers h = offers-keeps came.moment v part (segment_in came.frame v part) buffers h

    arrives-keeps : (came : Came) (v : PduValue) (buffers : List (Buffer Extent)) → P buffers → P (arrives limits came v buffers).buffers
    arrives-keeps came v buffers h =
        one_of (λ (effect : Effect). P effect.buffers) (v.lifetime == 0) _ (takes limits came v (part_of v) buffers) h (takes-keeps came v (part_of v) buffers h)

    pub comes-keeps : (came : Came) (buffers : List (Buffer Extent)) → P buffers → P (comes limits came buffers).buffers
    comes-keeps came buffers h =
        arrives-keeps came (value_in came.frame) (expire (length buffers) came.moment buffers).buffers (expire-keeps (length buffers) came.moment buffers h)

    pub frames-keep : P [] → (frames : List Came) → P (buffers_behind limits frames)
    frames-keep nothing frames =
        fold_keeps P (λ (buffers : List (Buffer Extent)) (came : Came). (comes limits came buffers).buffers) (λ buffers came h. comes-keeps came buffers h) [] nothing frames

-- ---- the numbers of a table

pub within_limits : (limits : TableLimits) (frames : List Came) → KeepTo limits (buffers_behind limits frames)
within_limits limits frames =
    frames-keep (KeepTo limits) (λ key buffers h. without_within limits key buffers h) limits
    (λ now segment buffers h e. without_within limits segment.key (after limits now (arrival_of segment) buffers) (kept_within limits now (arrival_of segment) buffers h))
    (λ now segment buffers h not. kept_within limits now (arrival_of segment) buffers h)
    (record { slots = omega arith; segments = omega arith; budget = omega arith })
    frames

-- ---- no buffer is whole

pub none_whole : (limits : TableLimits) (frames : List Came) → NoneIsWhole (buffers_behind limits frames)
none_whole limits frames =
    frames-keep NoneIsWhole (λ key buffers h. none_whole-without key buffers h) limits
    (λ now segment buffers h e. none_whole-released limits now (arrival_of segment) buffers h e)
    (λ now segment buffers h not. none_whole-after limits now (arrival_of segment) buffers h not)
    tt frames

-- ---- all tables together

sum_within : {X : Type 0} (f g : X → ℕ) → ((x : X) → f x ≤ g x) → (xs : List X) → sum (map f xs) ≤ sum (map g xs)
sum_within f g below [] = omega arith
sum_within f g below (x ∷ xs) =
    let a = sum_cons f x xs in
    let b = sum_cons g x xs in
    let c = below x in
    let d = sum_within f g below xs in
    omega arith

-- the budgets, by the places of the tables
budget_at : (limits : List TableLimits) (other : TableLimits) (place : ℕ) → place < length limits
    → get_or (map (λ (one : TableLimits). one.budget) limits) place 0 ≡ (unwrap_or (slice_get limits place) other).budget
budget_at [] other place within = absurd (omega arith)
budget_at (one ∷ limits) other zero within = refl
budget_at (one ∷ limits) other (suc place) within = budget_at limits other place (omega arith)

budgets_by_place : (s : Shares)
    → map (λ (one : TableLimits). one.budget) (limits_of s.others s.shares) ≡ map (λ place. (limits_at s place).budget) (places_of s)
budgets_by_place s =
    let all = limits_of s.others s.shares in
    let budget : TableLimits → ℕ = λ one. one.budget in
    let many : length all ≡ length s.shares + 1 = omega (arith, length-map s.shares (λ (share : Share). share.limits)) in
    fill_by_all (λ (place : ℕ). (limits_at s place).budget) (map budget all) (length s.shares + 1) 0 (length-map all budget ∙ many)
    (λ place within. budget_at all s.others place (omega arith))

pub held_within : (s : Shares) (frames : List Came) → held_by_all s frames ≤ budget_of_all s
held_within s frames =
    subst (λ (most : ℕ). held_by_all s frames ≤ most) (sym (ap sum (budgets_by_place s)))
    (sum_within (λ (place : ℕ). held (class_buffers s place frames)) (λ (place : ℕ). (limits_at s place).budget)
    (λ place. (within_limits (limits_at s place) (frames_of s place frames)).budget) (places_of s))
