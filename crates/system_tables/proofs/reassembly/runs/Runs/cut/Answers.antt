-- The pages of the unit, where a hole is cut, stand between the others.
use Rattle.std.proofs.Common.{◌≤◌, ap, length, sym, ◌∙◌, arith}
use Rattle.std.specs.Prelude.{slice_set}
use Rattle.std.proofs.lemmas.Option.{get_or_from_slice_get}
use Rattle.system_tables.specs.Reassembly.Runs.{cut}
use Rattle.system_tables.proofs.ReassemblyFacts.Groups.{few, fits, group_is, group_there, inside, pages_changed, replaced, replaced_sum, sum-set}
use Rattle.system_tables.proofs.reassembly.runs.Runs.cut.Goals as goal

pub start_at-start-requires : goal.start_at-start-requires
start_at-start-requires c =
    let t = c.self.inside in
    let within = inside t.counts.items t.pages.items _ (ap (λ v. v.groups) c.self.view_is) c.self.invariant.0.number c.args.slot c.requires.slot in
    omega (arith, within)

pub count_at-requires : goal.count_at-requires
count_at-requires c =
    let t = c.self.inside in
    let within = inside t.counts.items t.pages.items _ (ap (λ v. v.groups) c.self.view_is) c.self.invariant.0.number c.args.slot c.requires.slot in
    omega (arith, within)

pub cut_pages-count-requires-clause-within : goal.cut_pages-count-requires-clause-within
cut_pages-count-requires-clause-within c =
    let t = c.self.inside in
    let within = inside t.counts.items t.pages.items _ (ap (λ v. v.groups) c.self.view_is) c.self.invariant.0.number c.args.slot c.requires.slot in
    let start = c.start_at-start.ensures in
    let count = sym (get_or_from_slice_get t.counts.items c.args.slot c.count_at.result 0 c.count_at.ensures) in
    omega (arith, fits t.counts.items t.pages.items _ (ap (λ v. v.groups) c.self.view_is) c.self.invariant.0.number c.args.slot c.requires.slot _ _ start count)

pub cut_pages-count-requires-clause-order : goal.cut_pages-count-requires-clause-order
cut_pages-count-requires-clause-order c =
    let t = c.self.inside in
    let within = inside t.counts.items t.pages.items _ (ap (λ v. v.groups) c.self.view_is) c.self.invariant.0.number c.args.slot c.requires.slot in
    let start = c.start_at-start.ensures in
    let count = sym (get_or_from_slice_get t.counts.items c.args.slot c.count_at.result 0 c.count_at.ensures) in
    c.requires.order _ (group_there t.counts.items t.pages.items _ (ap (λ v. v.groups) c.self.view_is) c.self.invariant.0.number c.args.slot c.requires.slot _ _ start count)

pub cut_pages-count-requires-clause-room : goal.cut_pages-count-requires-clause-room
cut_pages-count-requires-clause-room c =
    let t = c.self.inside in
    let n = c.self.invariant.0 in
    omega (
      arith,
      few t.counts.items t.pages.items _ (ap (λ v. v.groups) c.self.view_is) n.number n.dense,
      n.enough,
      n.few_units,
      c.requires.room,
      ap (λ v. v.room) c.self.view_is,
    )

pub set-requires-clause-unit : goal.set-requires-clause-unit
set-requires-clause-unit c =
    let t = c.self.inside in
    let within = inside t.counts.items t.pages.items _ (ap (λ v. v.groups) c.self.view_is) c.self.invariant.0.number c.args.slot c.requires.slot in
    omega (arith, within)

pub set-requires-clause-few : goal.set-requires-clause-few
set-requires-clause-few c =
    let t = c.self.inside in
    let n = c.self.invariant.0 in
    let within = inside t.counts.items t.pages.items _ (ap (λ v. v.groups) c.self.view_is) n.number c.args.slot c.requires.slot in
    let count = sym (get_or_from_slice_get t.counts.items c.args.slot c.count_at.result 0 c.count_at.ensures) in
    omega (
      arith,
      sum-set t.counts.items c.args.slot c.cut_pages-count.result within,
      few t.counts.items t.pages.items _ (ap (λ v. v.groups) c.self.view_is) n.number n.dense,
      n.number,
      n.enough,
      n.few_units,
      n.fit.1,
      count,
      c.cut_pages-count.ensures.counted,
      c.requires.room,
      ap (λ v. v.room) c.self.view_is,
    )

pub invariant_of-self : goal.invariant_of-self
invariant_of-self c =
    let t = c.self.inside in
    let n = c.self.invariant.0 in
    let within = inside t.counts.items t.pages.items _ (ap (λ v. v.groups) c.self.view_is) n.number c.args.slot c.requires.slot in
    let start = c.start_at-start.ensures in
    let count = sym (get_or_from_slice_get t.counts.items c.args.slot c.count_at.result 0 c.count_at.ensures) in
    let k = c.cut_pages-count.ensures.cut in
    let set = ap (slice_set t.counts.items c.args.slot) k.number in
    let sum_is = replaced_sum t.counts.items t.pages.items _ (ap (λ v. v.groups) c.self.view_is) n.number c.args.slot c.requires.slot _ _ start count k.new _ _ k.pages_are set in
    let wide : length c.cut_pages-count.new.pages.items ≤ t.pages.most = omega (
      arith,
      sum_is,
      sum-set t.counts.items c.args.slot c.cut_pages-count.result within,
      few t.counts.items t.pages.items _ (ap (λ v. v.groups) c.self.view_is) n.number n.dense,
      n.number,
      n.enough,
      n.few_units,
      count,
      c.cut_pages-count.ensures.counted,
      c.requires.room,
      ap (λ v. v.room) c.self.view_is,
    ) in (
      pages_changed t.counts.items t.pages.items _ _ _ n c.args.slot within _ _ start count k.new _ _ _ k.pages_are
          (c.set.ensures.items ∙ set) k.dense wide c.cut_pages-count.ensures.most,
      omega (arith, c.self.invariant.1, c.set.ensures.room),
    )

pub returns-clause-groups : goal.returns-clause-groups
returns-clause-groups c runs told =
    let t = c.self.inside in
    let within = inside t.counts.items t.pages.items _ (ap (λ v. v.groups) c.self.view_is) c.self.invariant.0.number c.args.slot c.requires.slot in
    let start = c.start_at-start.ensures in
    let count = sym (get_or_from_slice_get t.counts.items c.args.slot c.count_at.result 0 c.count_at.ensures) in
    let k = c.cut_pages-count.ensures.cut in
    let group = group_is t.counts.items t.pages.items _ (ap (λ v. v.groups) c.self.view_is) c.self.invariant.0.number c.args.slot c.requires.slot _ _ start count runs told in
    replaced t.counts.items t.pages.items _ (ap (λ v. v.groups) c.self.view_is) c.self.invariant.0.number c.args.slot c.requires.slot _ _ start count k.new _ _ k.pages_are (c.set.ensures.items ∙ ap (slice_set t.counts.items c.args.slot) k.number)
    ∙ ap (slice_set c.args.self.now.groups c.args.slot) (k.runs ∙ ap (cut c.args.place) group)
