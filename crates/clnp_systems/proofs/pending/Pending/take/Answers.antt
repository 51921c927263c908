use Rattle.std.proofs.Common.{ℕ, ◌∙◌, List, Some, sym, ap, subst, arith}
use Rattle.std.specs.Prelude.{option_map}
use Rattle.clnp_machine.specs.Unit.{DataUnit}
use Rattle.clnp_machine.specs.Local.{is_answer, without_answered}
use Rattle.clnp_systems.specs.declared.pending.Request.{Request}
use Rattle.clnp_systems.specs.Local.{AreRequests}
use Rattle.clnp_systems.proofs.Requests.{none_taken, placed, taken}
use Rattle.clnp_systems.proofs.pending.Pending.take.Goals as goal

pub returns-in_err-place-clause-number : goal.returns-in_err-place-clause-number
returns-in_err-place-clause-number c = λ pending are.
    let none = none_taken c.args.from.now c.args.to.now c.args.body.now 0 c.args.self.now pending are (sym c.place_of.ensures ∙ c.in_err-place.was) in
    c.from_residual.ensures ∙ sym (ap (option_map (λ (u : DataUnit). u.number)) none.none)

pub returns-in_err-place-clause-left : goal.returns-in_err-place-clause-left
returns-in_err-place-clause-left c = λ pending are.
    let none = none_taken c.args.from.now c.args.to.now c.args.body.now 0 c.args.self.now pending are (sym c.place_of.ensures ∙ c.in_err-place.was) in
    subst (λ (l : List DataUnit). AreRequests c.args.self.now l) (sym none.left) are

pub take_out-requires : goal.take_out-requires
take_out-requires c =
    let place = placed c.args.from.now c.args.to.now c.args.body.now 0 c.in_ok-place.place c.args.self.now (sym c.place_of.ensures ∙ c.in_ok-place.was) in
    omega arith

pub returns-clause-number : goal.returns-clause-number
returns-clause-number c = λ pending are.
    let is = taken c.args.from.now c.args.to.now c.args.body.now c.in_ok-place.place c.args.self.now pending are (sym c.place_of.ensures ∙ c.in_ok-place.was) in
    ap (λ (n : ℕ). Some n) (c.take_out.ensures.number is.request is.there) ∙ sym is.number

pub returns-clause-left : goal.returns-clause-left
returns-clause-left c = λ pending are.
    let is = taken c.args.from.now c.args.to.now c.args.body.now c.in_ok-place.place c.args.self.now pending are (sym c.place_of.ensures ∙ c.in_ok-place.was) in
    subst (λ (l : List Request). AreRequests l (without_answered (is_answer c.args.from.now c.args.to.now c.args.body.now) pending))
    (sym c.take_out.ensures.left) is.left
