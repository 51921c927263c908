-- The pages of a unit are a part of the list.
use Rattle.std.proofs.Common.{Some, ap, sym, ◌∙◌, arith}
use Rattle.std.proofs.lemmas.Option.{get_or_from_slice_get}
use Rattle.system_tables.specs.Reassembly.Pages.{on_pages}
use Rattle.system_tables.proofs.ReassemblyFacts.Groups.{group_there, inside, fits}
use Rattle.system_tables.proofs.reassembly.runs.Runs.pages_of.Goals as goal

pub start_at-start-requires : goal.start_at-start-requires
start_at-start-requires c =
    let t = c.self.inside in
    let within = inside t.counts.items t.pages.items _ (ap (λ v. v.groups) c.self.view_is) c.self.invariant.0.number c.args.slot c.requires in
    omega (arith, within)

pub count_at-requires : goal.count_at-requires
count_at-requires c =
    let t = c.self.inside in
    let within = inside t.counts.items t.pages.items _ (ap (λ v. v.groups) c.self.view_is) c.self.invariant.0.number c.args.slot c.requires in
    omega (arith, within)

pub part-requires : goal.part-requires
part-requires c =
    let t = c.self.inside in
    let start = c.start_at-start.ensures in
    let count = sym (get_or_from_slice_get t.counts.items c.args.slot c.count_at.result 0 c.count_at.ensures) in
    omega (arith, fits t.counts.items t.pages.items _ (ap (λ v. v.groups) c.self.view_is) c.self.invariant.0.number c.args.slot c.requires _ _ start count)

pub returns : goal.returns
returns c =
    let t = c.self.inside in
    let start = c.start_at-start.ensures in
    let count = sym (get_or_from_slice_get t.counts.items c.args.slot c.count_at.result 0 c.count_at.ensures) in
    group_there t.counts.items t.pages.items _ (ap (λ v. v.groups) c.self.view_is) c.self.invariant.0.number c.args.slot c.requires _ _ start count
    ∙ ap (λ l. Some (on_pages l)) (sym c.part.ensures)
