-- The pages of the unit, marked, stand between the others.
use Rattle.std.proofs.Common.{◌≡◌, length, map, take, drop, ap, sym, ◌∙◌, arith}
use Rattle.std.specs.Prelude.{slice_set}
use Rattle.std.proofs.lemmas.Option.{get_or_from_slice_get}
use Rattle.std.proofs.lemmas.List.{length-map, set-get_or}
use Rattle.system_tables.specs.Reassembly.Runs.{marked}
use Rattle.system_tables.proofs.ReassemblyFacts.Groups.{fits, group_is, group_there, inside, long_group, on_pages-map, pages_changed, replaced, replaced_sum, wanting-map}
use Rattle.system_tables.proofs.reassembly.runs.Runs.mark.Goals as goal

pub start_at-start-requires : goal.start_at-start-requires
start_at-start-requires c =
    let t = c.self.inside in
    omega (arith, inside t.counts.items t.pages.items _ (ap (λ v. v.groups) c.self.view_is) c.self.invariant.0.number c.args.slot c.requires.slot)

pub count_at-count-requires : goal.count_at-count-requires
count_at-count-requires c =
    let t = c.self.inside in
    omega (arith, inside t.counts.items t.pages.items _ (ap (λ v. v.groups) c.self.view_is) c.self.invariant.0.number c.args.slot c.requires.slot)

pub mark_on-requires-clause-within : goal.mark_on-requires-clause-within
mark_on-requires-clause-within c =
    let t = c.self.inside in
    let start = c.start_at-start.ensures in
    let count = sym (get_or_from_slice_get t.counts.items c.args.slot c.count_at-count.result 0 c.count_at-count.ensures) in
    omega (arith, fits t.counts.items t.pages.items _ (ap (λ v. v.groups) c.self.view_is) c.self.invariant.0.number c.args.slot c.requires.slot _ _ start count)

pub mark_on-requires-clause-order : goal.mark_on-requires-clause-order
mark_on-requires-clause-order c =
    let t = c.self.inside in
    let start = c.start_at-start.ensures in
    let count = sym (get_or_from_slice_get t.counts.items c.args.slot c.count_at-count.result 0 c.count_at-count.ensures) in
    c.requires.order _ (group_there t.counts.items t.pages.items _ (ap (λ v. v.groups) c.self.view_is) c.self.invariant.0.number c.args.slot c.requires.slot _ _ start count)

pub invariant_of-self : goal.invariant_of-self
invariant_of-self c =
    let t = c.self.inside in
    let start = c.start_at-start.ensures in
    let count = sym (get_or_from_slice_get t.counts.items c.args.slot c.count_at-count.result 0 c.count_at-count.ensures) in
    let n = c.self.invariant.0 in
    let within = inside t.counts.items t.pages.items _ (ap (λ v. v.groups) c.self.view_is) n.number c.args.slot c.requires.slot in
    let f = marked c.args.from c.args.to c.args.by in
    let unit = take c.count_at-count.result (drop c.start_at-start.result t.pages.items) in
    let new = map (map f) unit in
    let many = long_group t.counts.items t.pages.items _ (ap (λ v. v.groups) c.self.view_is) n.number c.args.slot c.requires.slot _ _ start count in
    let counted : t.counts.items ≡ slice_set t.counts.items c.args.slot (length new) =
    sym (ap (slice_set t.counts.items c.args.slot) (length-map unit (map f) ∙ many) ∙ set-get_or t.counts.items c.args.slot 0) in
    let sum_is = replaced_sum t.counts.items t.pages.items _ (ap (λ v. v.groups) c.self.view_is) n.number c.args.slot c.requires.slot _ _ start count new _ t.counts.items c.mark_on.ensures.items counted in (
      pages_changed t.counts.items t.pages.items _ _ _ n c.args.slot within _ _ start count new _ t.counts.items _ c.mark_on.ensures.items counted
          (omega (arith, wanting-map f unit)) (omega (arith, sum_is, n.number, n.fit.0)) c.mark_on.ensures.most,
      c.self.invariant.1,
    )

pub returns-clause-groups : goal.returns-clause-groups
returns-clause-groups c runs told =
    let t = c.self.inside in
    let start = c.start_at-start.ensures in
    let count = sym (get_or_from_slice_get t.counts.items c.args.slot c.count_at-count.result 0 c.count_at-count.ensures) in
    let n = c.self.invariant.0 in
    let f = marked c.args.from c.args.to c.args.by in
    let unit = take c.count_at-count.result (drop c.start_at-start.result t.pages.items) in
    let new = map (map f) unit in
    let many = long_group t.counts.items t.pages.items _ (ap (λ v. v.groups) c.self.view_is) n.number c.args.slot c.requires.slot _ _ start count in
    let counted : t.counts.items ≡ slice_set t.counts.items c.args.slot (length new) =
    sym (ap (slice_set t.counts.items c.args.slot) (length-map unit (map f) ∙ many) ∙ set-get_or t.counts.items c.args.slot 0) in
    let group = group_is t.counts.items t.pages.items _ (ap (λ v. v.groups) c.self.view_is) n.number c.args.slot c.requires.slot _ _ start count runs told in
    replaced t.counts.items t.pages.items _ (ap (λ v. v.groups) c.self.view_is) n.number c.args.slot c.requires.slot _ _ start count new _ t.counts.items c.mark_on.ensures.items counted
    ∙ ap (slice_set c.args.self.now.groups c.args.slot) (on_pages-map f unit ∙ ap (map f) group)
