-- The page of the unit, filled, stands between the others.
use Rattle.std.proofs.Common.{[], ◌∷◌, ◌≡◌, ◌<◌, ap, arith, get_or, length, subst, sym, ◌∙◌}
use Rattle.std.specs.Prelude.{slice_set}
use Rattle.std.proofs.lemmas.List.{append-nil, set-get_or}
use Rattle.std.proofs.lemmas.Option.{get_or_from_slice_get}
use Rattle.system_tables.specs.Reassembly.Runs.{AreInOrder, filled}
use Rattle.system_tables.proofs.ReassemblyFacts.Alone.{alone_is, alone_set, alone_wanting, filled_longer}
use Rattle.system_tables.proofs.ReassemblyFacts.Groups.{fits, group_is, group_there, inside, pages_changed, replaced, replaced_sum}
use Rattle.system_tables.proofs.reassembly.runs.Runs.fill_page.Goals as goal

pub start_at-start-requires : goal.start_at-start-requires
start_at-start-requires c =
    let t = c.self.inside in
    omega (arith, inside t.counts.items t.pages.items _ (ap (λ v. v.groups) c.self.view_is) c.self.invariant.0.number c.args.slot c.requires.slot)

pub count_at-requires : goal.count_at-requires
count_at-requires c =
    let t = c.self.inside in
    omega (arith, inside t.counts.items t.pages.items _ (ap (λ v. v.groups) c.self.view_is) c.self.invariant.0.number c.args.slot c.requires.slot)

pub has_room-requires : goal.has_room-requires
has_room-requires c =
    let t = c.self.inside in
    let n = c.self.invariant.0 in
    let groups_are = ap (λ v. v.groups) c.self.view_is in
    let start = c.start_at-start.ensures in
    let count = sym (get_or_from_slice_get t.counts.items c.args.slot c.count_at.result 0 c.count_at.ensures) in
    let one : c.count_at.result ≡ 1 = omega (arith, c.if-count_at-ne1.false) in
    let within : c.start_at-start.result < length t.pages.items
    = omega (arith, one, fits t.counts.items t.pages.items _ groups_are n.number c.args.slot c.requires.slot _ _ start count) in
    within

pub fill-requires-clause-within : goal.fill-requires-clause-within
fill-requires-clause-within c =
    let t = c.self.inside in
    let n = c.self.invariant.0 in
    let groups_are = ap (λ v. v.groups) c.self.view_is in
    let start = c.start_at-start.ensures in
    let count = sym (get_or_from_slice_get t.counts.items c.args.slot c.count_at.result 0 c.count_at.ensures) in
    let one : c.count_at.result ≡ 1 = omega (arith, c.if-count_at-ne1.false) in
    let within : c.start_at-start.result < length t.pages.items
    = omega (arith, one, fits t.counts.items t.pages.items _ groups_are n.number c.args.slot c.requires.slot _ _ start count) in
    within

pub fill-requires-clause-order : goal.fill-requires-clause-order
fill-requires-clause-order c =
    let t = c.self.inside in
    let n = c.self.invariant.0 in
    let groups_are = ap (λ v. v.groups) c.self.view_is in
    let start = c.start_at-start.ensures in
    let count = sym (get_or_from_slice_get t.counts.items c.args.slot c.count_at.result 0 c.count_at.ensures) in
    let one : c.count_at.result ≡ 1 = omega (arith, c.if-count_at-ne1.false) in
    let within : c.start_at-start.result < length t.pages.items
    = omega (arith, one, fits t.counts.items t.pages.items _ groups_are n.number c.args.slot c.requires.slot _ _ start count) in
    subst AreInOrder (alone_is t.pages.items c.start_at-start.result c.count_at.result one within)
    (c.requires.order _ (group_there t.counts.items t.pages.items _ groups_are n.number c.args.slot c.requires.slot _ _ start count))

pub invariant_of-self : goal.invariant_of-self
invariant_of-self c =
    let t = c.self.inside in
    let n = c.self.invariant.0 in
    let groups_are = ap (λ v. v.groups) c.self.view_is in
    let start = c.start_at-start.ensures in
    let count = sym (get_or_from_slice_get t.counts.items c.args.slot c.count_at.result 0 c.count_at.ensures) in
    let one : c.count_at.result ≡ 1 = omega (arith, c.if-count_at-ne1.false) in
    let within : c.start_at-start.result < length t.pages.items
    = omega (arith, one, fits t.counts.items t.pages.items _ groups_are n.number c.args.slot c.requires.slot _ _ start count) in
    let new = filled c.args.from c.args.to c.args.by (get_or t.pages.items c.start_at-start.result []) in
    let pages_are = alone_set t.pages.items c.start_at-start.result c.count_at.result one within c.fill.new.self.items new c.fill.ensures.items in
    let single : length (new ∷ []) ≡ get_or t.counts.items c.args.slot 0 = omega (arith, one, count) in
    let counted : t.counts.items ≡ slice_set t.counts.items c.args.slot (length (new ∷ []))
    = sym (ap (slice_set t.counts.items c.args.slot) single ∙ set-get_or t.counts.items c.args.slot 0) in
    let there = inside t.counts.items t.pages.items _ groups_are n.number c.args.slot c.requires.slot in
    let sum_is = replaced_sum t.counts.items t.pages.items _ groups_are n.number c.args.slot c.requires.slot _ _ start count (new ∷ []) _ t.counts.items pages_are counted in
    let longer = filled_longer c.args.from c.args.to c.args.by (get_or t.pages.items c.start_at-start.result []) in (
      pages_changed t.counts.items t.pages.items _ _ _ n c.args.slot there _ _ start count (new ∷ []) _ t.counts.items _ pages_are counted
          (alone_wanting t.pages.items c.start_at-start.result c.count_at.result one within new longer) (omega (arith, sum_is, n.number, n.fit.0)) c.fill.ensures.most,
      c.self.invariant.1,
    )

pub returns-clause-groups : goal.returns-clause-groups
returns-clause-groups c e runs told =
    let t = c.self.inside in
    let n = c.self.invariant.0 in
    let groups_are = ap (λ v. v.groups) c.self.view_is in
    let start = c.start_at-start.ensures in
    let count = sym (get_or_from_slice_get t.counts.items c.args.slot c.count_at.result 0 c.count_at.ensures) in
    let one : c.count_at.result ≡ 1 = omega (arith, c.if-count_at-ne1.false) in
    let within : c.start_at-start.result < length t.pages.items
    = omega (arith, one, fits t.counts.items t.pages.items _ groups_are n.number c.args.slot c.requires.slot _ _ start count) in
    let new = filled c.args.from c.args.to c.args.by (get_or t.pages.items c.start_at-start.result []) in
    let pages_are = alone_set t.pages.items c.start_at-start.result c.count_at.result one within c.fill.new.self.items new c.fill.ensures.items in
    let single : length (new ∷ []) ≡ get_or t.counts.items c.args.slot 0 = omega (arith, one, count) in
    let counted : t.counts.items ≡ slice_set t.counts.items c.args.slot (length (new ∷ []))
    = sym (ap (slice_set t.counts.items c.args.slot) single ∙ set-get_or t.counts.items c.args.slot 0) in
    let group = group_is t.counts.items t.pages.items _ groups_are n.number c.args.slot c.requires.slot _ _ start count runs told in
    let page = sym (alone_is t.pages.items c.start_at-start.result c.count_at.result one within) ∙ group in
    replaced t.counts.items t.pages.items _ groups_are n.number c.args.slot c.requires.slot _ _ start count (new ∷ []) _ t.counts.items pages_are counted
    ∙ ap (slice_set c.args.self.now.groups c.args.slot) (append-nil new ∙ ap (filled c.args.from c.args.to c.args.by) page)
