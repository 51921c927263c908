-- No slot stands twice.
use Rattle.std.proofs.Common.{◌==◌, ◌+◌, ◌∙◌, ℕ, Some, ap, zero-add}
use Rattle.std.specs.Prelude.{slice_get}
use Rattle.std.specs.List.{position_from}
use Rattle.std.proofs.lemmas.Option.{none-some, same_Some}
use Rattle.system_tables.proofs.ReassemblyFacts.InSlots.{first_place}
use Rattle.system_tables.proofs.reassembly.openings.Openings.place_at.Goals as goal

pub unreachable-requires : goal.unreachable-requires
unreachable-requires c =
    let t = c.self.inside in
    let place = c.requires.0 in
    let at = ap (λ v. slice_get v.slots place) c.self.view_is ∙ c.requires.1 in
    none-some (0 + place) (c.in_default.ensures ∙ ap (λ l. position_from (λ other. other == c.args.slot) 0 l) c.deref.ensures.value
    ∙ first_place t.order.items 0 place c.args.slot c.self.invariant.0.apart at)

pub returns : goal.returns
returns c place stands =
    let t = c.self.inside in
    let at = ap (λ v. slice_get v.slots place) c.self.view_is ∙ stands in
    same_Some c.in-Some.place place (c.in-Some.ensures ∙ ap (λ l. position_from (λ other. other == c.args.slot) 0 l) c.deref.ensures.value
    ∙ first_place t.order.items 0 place c.args.slot c.self.invariant.0.apart at ∙ ap (λ (n : ℕ). Some n) (zero-add place))
