-- The pages of the unit are taken out between the others.
use Rattle.std.proofs.Common.{ap, sym, arith}
use Rattle.std.proofs.lemmas.Option.{get_or_from_slice_get}
use Rattle.system_tables.proofs.ReassemblyFacts.Groups.{inside, fits, pages_removed, taken}
use Rattle.system_tables.proofs.reassembly.runs.Runs.remove.Goals as goal

pub start_at-start-requires : goal.start_at-start-requires
start_at-start-requires c =
    let t = c.self.inside in
    let within = inside t.counts.items t.pages.items _ (ap (λ v. v.groups) c.self.view_is) c.self.invariant.0.number c.args.slot c.requires in
    omega (arith, within)

pub remove-count-requires-clause-unit : goal.remove-count-requires-clause-unit
remove-count-requires-clause-unit c =
    let t = c.self.inside in
    let within = inside t.counts.items t.pages.items _ (ap (λ v. v.groups) c.self.view_is) c.self.invariant.0.number c.args.slot c.requires in
    omega (arith, within)

pub take_pages-requires : goal.take_pages-requires
take_pages-requires c =
    let t = c.self.inside in
    let within = inside t.counts.items t.pages.items _ (ap (λ v. v.groups) c.self.view_is) c.self.invariant.0.number c.args.slot c.requires in
    let start = c.start_at-start.ensures in
    let count = sym (get_or_from_slice_get t.counts.items c.args.slot c.remove-count.result 0 c.remove-count.ensures.count) in
    omega (arith, fits t.counts.items t.pages.items _ (ap (λ v. v.groups) c.self.view_is) c.self.invariant.0.number c.args.slot c.requires _ _ start count)

pub invariant_of-self : goal.invariant_of-self
invariant_of-self c =
    let t = c.self.inside in
    let within = inside t.counts.items t.pages.items _ (ap (λ v. v.groups) c.self.view_is) c.self.invariant.0.number c.args.slot c.requires in
    let start = c.start_at-start.ensures in
    let count = sym (get_or_from_slice_get t.counts.items c.args.slot c.remove-count.result 0 c.remove-count.ensures.count) in (
      pages_removed t.counts.items t.pages.items _ _ _ c.self.invariant.0 c.args.slot within _ _ start count _ _ _
          c.take_pages.ensures.items c.remove-count.ensures.items c.take_pages.ensures.most,
      omega (arith, c.self.invariant.1, c.remove-count.ensures.room),
    )

pub returns-clause-groups : goal.returns-clause-groups
returns-clause-groups c =
    let t = c.self.inside in
    let within = inside t.counts.items t.pages.items _ (ap (λ v. v.groups) c.self.view_is) c.self.invariant.0.number c.args.slot c.requires in
    let start = c.start_at-start.ensures in
    let count = sym (get_or_from_slice_get t.counts.items c.args.slot c.remove-count.result 0 c.remove-count.ensures.count) in
    taken t.counts.items t.pages.items _ (ap (λ v. v.groups) c.self.view_is) c.self.invariant.0.number c.args.slot c.requires _ _ start count _ _ c.take_pages.ensures.items c.remove-count.ensures.items
