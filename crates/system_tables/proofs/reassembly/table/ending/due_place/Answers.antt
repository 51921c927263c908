-- What was found is the soonest.
use Rattle.std.proofs.Common.{◌≡◌, ◌≤◌, ◌<◌, ◌∙◌, ap, arith, sym, subst}
use Rattle.std.specs.List.{All}
use Rattle.std.proofs.lemmas.List.Elements.{All-from_recursion, All-weaker, recursion_from_All}
use Rattle.std.proofs.lemmas.Option.{same_Some, slice_get_within}
use Rattle.system_tables.specs.declared.reassembly.openings.Opening.{Opening}
use Rattle.system_tables.proofs.reassembly.table.ending.due_place.Goals as goal

pub returns-then-is_quiet-clause-none : goal.returns-then-is_quiet-clause-none
returns-then-is_quiet-clause-none c =
    All-from_recursion (λ (opening : Opening). c.args.now < opening.deadline) c.args.openings.now.list (c.is_quiet.ensures c.if-is_quiet.true)

pub at-requires : goal.at-requires
at-requires c =
    let found = c.in_ok-place.ensures.soonest in
    slice_get_within c.args.openings.now.list c.in_ok-place.place found.0 found.1

pub set_quiet_until-requires : goal.set_quiet_until-requires
set_quiet_until-requires c =
    let found = c.in_ok-place.ensures.soonest in
    let same : found.0 ≡ c.at.result.now = same_Some found.0 c.at.result.now (sym found.1 ∙ c.at.ensures.opening) in
    let openings = c.args.openings.now.list in
    recursion_from_All (λ (other : Opening). c.at.result.now.deadline ≤ other.deadline) openings
    (subst (λ (opening : Opening). All (λ other. opening.deadline ≤ other.deadline) openings) same found.2)

pub returns-then-deadline-now-clause-due : goal.returns-then-deadline-now-clause-due
returns-then-deadline-now-clause-due c =
    let found = c.in_ok-place.ensures.soonest in
    let same : found.0 ≡ c.at.result.now = same_Some found.0 c.at.result.now (sym found.1 ∙ c.at.ensures.opening) in
    (found.0, found.1, omega (arith, ap (λ (opening : Opening). opening.deadline) same, c.if-deadline-now.true), found.2, found.3)

pub returns-then-deadline-now-clause-same : goal.returns-then-deadline-now-clause-same
returns-then-deadline-now-clause-same c = c.set_quiet_until.ensures

pub returns-else-deadline-now-clause-none : goal.returns-else-deadline-now-clause-none
returns-else-deadline-now-clause-none c =
    let found = c.in_ok-place.ensures.soonest in
    let same : found.0 ≡ c.at.result.now = same_Some found.0 c.at.result.now (sym found.1 ∙ c.at.ensures.opening) in
    All-weaker (λ (other : Opening). found.0.deadline ≤ other.deadline) (λ other. c.args.now < other.deadline)
    (λ other least. omega (arith, least, ap (λ (opening : Opening). opening.deadline) same, c.if-deadline-now.false)) c.args.openings.now.list found.2

pub returns-else-deadline-now-clause-same : goal.returns-else-deadline-now-clause-same
returns-else-deadline-now-clause-same c = c.set_quiet_until.ensures
