-- No other page has the number.
use Rattle.std.proofs.Common.{◌∙◌, ap, arith, length, subst, sym}
use Rattle.std.specs.Prelude.{slice_set}
use Rattle.system_tables.specs.Reassembly.Runs.{AreInOrder, filled}
use Rattle.system_tables.proofs.ReassemblyFacts.Numbered.{changed_pages, kept_set, length-numbered, made_there, read_numbered}
use Rattle.system_tables.proofs.ReassemblyFacts.Paged.{set_part}
use Rattle.system_tables.proofs.reassembly.pages.Pages.fill.Goals as goal

pub returns-clause-items : goal.returns-clause-items
returns-clause-items c =
    let t = c.self.inside in
    let number = c.index-number.result.now in
    let view = ap (λ v. v.items) c.self.view_is in
    let there = set_part t.order.items c.args.at number (omega (arith, length-numbered t.made.items t.order.items _ view, c.requires.within)) c.index-number.ensures in
    let within = made_there t.order.items t.free.items t.made.items t.most c.self.invariant.0 c.args.at number there in
    let page = read_numbered t.made.items t.order.items c.args.at number _ _ there within c.index_mut.ensures.value view in
    changed_pages t.order.items t.free.items t.made.items t.most c.self.invariant.0 c.args.at number there c.fill.new.self
    ∙ ap (λ l. slice_set l c.args.at c.fill.new.self) view
    ∙ ap (slice_set c.args.self.now.items c.args.at) (c.fill.ensures ∙ ap (filled c.args.from c.args.to c.args.by) page)

pub index-number-requires : goal.index-number-requires
index-number-requires c =
    let t = c.self.inside in
    omega (arith, t.order.ok.0, length-numbered t.made.items t.order.items _ (ap (λ v. v.items) c.self.view_is), c.requires.within)

pub index_mut-requires : goal.index_mut-requires
index_mut-requires c =
    let t = c.self.inside in
    let number = c.index-number.result.now in
    let long = length-numbered t.made.items t.order.items _ (ap (λ v. v.items) c.self.view_is) in
    let there = set_part t.order.items c.args.at number (omega (arith, long, c.requires.within)) c.index-number.ensures in
    omega (arith, t.made.ok.0, made_there t.order.items t.free.items t.made.items t.most c.self.invariant.0 c.args.at number there)

pub fill-requires-clause-room : goal.fill-requires-clause-room
fill-requires-clause-room c =
    let t = c.self.inside in
    let number = c.index-number.result.now in
    let view = ap (λ v. v.items) c.self.view_is in
    let there = set_part t.order.items c.args.at number (omega (arith, length-numbered t.made.items t.order.items _ view, c.requires.within)) c.index-number.ensures in
    let within = made_there t.order.items t.free.items t.made.items t.most c.self.invariant.0 c.args.at number there in
    omega (arith, ap length (read_numbered t.made.items t.order.items c.args.at number _ _ there within c.index_mut.ensures.value view), c.requires.room)

pub fill-requires-clause-order : goal.fill-requires-clause-order
fill-requires-clause-order c =
    let t = c.self.inside in
    let number = c.index-number.result.now in
    let view = ap (λ v. v.items) c.self.view_is in
    let there = set_part t.order.items c.args.at number (omega (arith, length-numbered t.made.items t.order.items _ view, c.requires.within)) c.index-number.ensures in
    let within = made_there t.order.items t.free.items t.made.items t.most c.self.invariant.0 c.args.at number there in
    subst AreInOrder (sym (read_numbered t.made.items t.order.items c.args.at number _ _ there within c.index_mut.ensures.value view)) c.requires.order

pub invariant_of-self : goal.invariant_of-self
invariant_of-self c =
    let t = c.self.inside in
    let number = c.index-number.result.now in
    let long = length-numbered t.made.items t.order.items _ (ap (λ v. v.items) c.self.view_is) in
    let there = set_part t.order.items c.args.at number (omega (arith, long, c.requires.within)) c.index-number.ensures in
    (kept_set t.order.items t.free.items t.made.items t.most c.self.invariant.0 c.args.at number there c.fill.new.self, c.self.invariant.1)

pub returns-clause-most : goal.returns-clause-most
returns-clause-most c = ap (λ v. v.most) c.self.view_is
