-- No other page has the number, and none has that of the second half.
use Rattle.std.proofs.Common.{◌+◌, ◌∙◌, ap, arith, length, subst, sym}
use Rattle.std.specs.Prelude.{slice_set}
use Rattle.std.specs.List.{insert}
use Rattle.std.proofs.lemmas.Bool.{false≢true}
use Rattle.std.proofs.lemmas.List.{length-set}
use Rattle.system_tables.specs.Reassembly.Pages.{numbered}
use Rattle.system_tables.specs.Reassembly.Runs.{AreInOrder, cut}
use Rattle.system_tables.proofs.ReassemblyFacts.Numbered.{changed_pages, kept_set, length-numbered, made_there, put_kept, put_pages, read_numbered, taken_below}
use Rattle.system_tables.proofs.ReassemblyFacts.Paged.{set_part}
use Rattle.system_tables.proofs.reassembly.pages.Pages.cut.Goals as goal

pub returns-in_default-clause-whole : goal.returns-in_default-clause-whole
returns-in_default-clause-whole c e =
    let t = c.self.inside in
    let number = c.index-number.result.now in
    let view = ap (λ v. v.items) c.self.view_is in
    let there = set_part t.order.items c.args.at number (omega (arith, length-numbered t.made.items t.order.items _ view, c.requires.within)) c.index-number.ensures in
    let within = made_there t.order.items t.free.items t.made.items t.most c.self.invariant.0 c.args.at number there in
    let page = read_numbered t.made.items t.order.items c.args.at number _ _ there within c.index_mut.ensures.value view in
    changed_pages t.order.items t.free.items t.made.items t.most c.self.invariant.0 c.args.at number there c.cut.new.self
    ∙ ap (λ l. slice_set l c.args.at c.cut.new.self) view
    ∙ ap (slice_set c.args.self.now.items c.args.at) (c.in_default.ensures.whole ∙ ap (cut c.args.place) page)

pub index_mut-requires-2 : goal.index_mut-requires-2
index_mut-requires-2 c =
    let t = c.self.inside in
    let number = c.index-number.result.now in
    let view = ap (λ v. v.items) c.self.view_is in
    let there = set_part t.order.items c.args.at number (omega (arith, length-numbered t.made.items t.order.items _ view, c.requires.within)) c.index-number.ensures in
    let kept = kept_set t.order.items t.free.items t.made.items t.most c.self.invariant.0 c.args.at number there c.cut.new.self in
    omega (
      arith,
      taken_below t.order.items t.free.items (slice_set t.made.items number c.cut.new.self) t.most kept
          c.take_page-other.result c.take_page-other.new.made.items c.take_page-other.new.free.items c.take_page-other.ensures.taken,
    )

pub invariant_of-self-2 : goal.invariant_of-self-2
invariant_of-self-2 c =
    let t = c.self.inside in
    let i = c.self.invariant in
    let p = c.take_page-other in
    let number = c.index-number.result.now in
    let view = ap (λ v. v.items) c.self.view_is in
    let long = length-numbered t.made.items t.order.items _ view in
    let there = set_part t.order.items c.args.at number (omega (arith, long, c.requires.within)) c.index-number.ensures in
    let kept = kept_set t.order.items t.free.items t.made.items t.most i.0 c.args.at number there c.cut.new.self in (
      put_kept t.order.items t.free.items (slice_set t.made.items number c.cut.new.self) t.most kept p.result p.new.made.items p.new.free.items p.ensures.taken
          (c.args.at + 1) (omega (arith, long, c.requires.within)) (length (slice_set p.new.made.items p.result c.in-Some.second)) c.insert.new.self.items
          (length-set p.new.made.items p.result c.in-Some.second) (omega (arith, long, c.requires.room, ap (λ v. v.most) c.self.view_is)) c.in-Ok.ensures.items,
      (omega (arith, i.1.0, c.in-Ok.ensures.capacity), (omega (arith, i.1.1.0, p.ensures.free_capacity), omega (arith, i.1.1.1, p.ensures.capacity))),
    )

pub returns-clause-halved : goal.returns-clause-halved
returns-clause-halved c e =
    let t = c.self.inside in
    let p = c.take_page-other in
    let number = c.index-number.result.now in
    let view = ap (λ v. v.items) c.self.view_is in
    let long = length-numbered t.made.items t.order.items _ view in
    let there = set_part t.order.items c.args.at number (omega (arith, long, c.requires.within)) c.index-number.ensures in
    let within = made_there t.order.items t.free.items t.made.items t.most c.self.invariant.0 c.args.at number there in
    let page = read_numbered t.made.items t.order.items c.args.at number _ _ there within c.index_mut.ensures.value view in
    let kept = kept_set t.order.items t.free.items t.made.items t.most c.self.invariant.0 c.args.at number there c.cut.new.self in
    record {
      first = c.cut.new.self;
      second = c.in-Some.second;
      pages_are = ap (numbered (slice_set p.new.made.items p.result c.in-Some.second)) c.in-Ok.ensures.items
          ∙ put_pages t.order.items t.free.items (slice_set t.made.items number c.cut.new.self) t.most kept p.result p.new.made.items p.new.free.items p.ensures.taken
          (c.args.at + 1) (omega (arith, long, c.requires.within)) c.in-Some.second
          ∙ ap (λ l. insert l (c.args.at + 1) c.in-Some.second)
          (changed_pages t.order.items t.free.items t.made.items t.most c.self.invariant.0 c.args.at number there c.cut.new.self
          ∙ ap (λ l. slice_set l c.args.at c.cut.new.self) view);
      runs_are = c.in-Some.ensures.halved ∙ ap (cut c.args.place) page;
      first_half = c.in-Some.ensures.first;
      second_half = c.in-Some.ensures.second;
    }

pub index-number-requires : goal.index-number-requires
index-number-requires c =
    let t = c.self.inside in
    omega (arith, t.order.ok.0, length-numbered t.made.items t.order.items _ (ap (λ v. v.items) c.self.view_is), c.requires.within)

pub index_mut-requires : goal.index_mut-requires
index_mut-requires c =
    let t = c.self.inside in
    let number = c.index-number.result.now in
    let long = length-numbered t.made.items t.order.items _ (ap (λ v. v.items) c.self.view_is) in
    let there = set_part t.order.items c.args.at number (omega (arith, long, c.requires.within)) c.index-number.ensures in
    omega (arith, t.made.ok.0, made_there t.order.items t.free.items t.made.items t.most c.self.invariant.0 c.args.at number there)

pub cut-requires : goal.cut-requires
cut-requires c =
    let t = c.self.inside in
    let number = c.index-number.result.now in
    let view = ap (λ v. v.items) c.self.view_is in
    let there = set_part t.order.items c.args.at number (omega (arith, length-numbered t.made.items t.order.items _ view, c.requires.within)) c.index-number.ensures in
    let within = made_there t.order.items t.free.items t.made.items t.most c.self.invariant.0 c.args.at number there in
    subst AreInOrder (sym (read_numbered t.made.items t.order.items c.args.at number _ _ there within c.index_mut.ensures.value view)) c.requires.order

pub invariant_of-self : goal.invariant_of-self
invariant_of-self c =
    let t = c.self.inside in
    let number = c.index-number.result.now in
    let long = length-numbered t.made.items t.order.items _ (ap (λ v. v.items) c.self.view_is) in
    let there = set_part t.order.items c.args.at number (omega (arith, long, c.requires.within)) c.index-number.ensures in
    (kept_set t.order.items t.free.items t.made.items t.most c.self.invariant.0 c.args.at number there c.cut.new.self, c.self.invariant.1)

pub returns-in_default-clause-most : goal.returns-in_default-clause-most
returns-in_default-clause-most c = ap (λ v. v.most) c.self.view_is

pub returns-clause-most : goal.returns-clause-most
returns-clause-most c = ap (λ v. v.most) c.self.view_is

pub returns-in_default-clause-halved : goal.returns-in_default-clause-halved
returns-in_default-clause-halved c e = absurd (false≢true e)

pub returns-clause-whole : goal.returns-clause-whole
returns-clause-whole c e = absurd (false≢true (sym e))

pub take_page-other-requires : goal.take_page-other-requires
take_page-other-requires c none =
    let t = c.self.inside in
    let i = c.self.invariant in
    let number = c.index-number.result.now in
    let long = length-numbered t.made.items t.order.items _ (ap (λ v. v.items) c.self.view_is) in
    omega (arith, none, i.0.all, length-set t.made.items number c.cut.new.self, long, c.requires.room, ap (λ v. v.most) c.self.view_is, i.1.1.1)

pub overflow_add-at : goal.overflow_add-at
overflow_add-at c =
    let t = c.self.inside in
    let long = length-numbered t.made.items t.order.items _ (ap (λ v. v.items) c.self.view_is) in
    omega (arith, t.order.ok.0, t.order.ok.1, t.order.small, long, c.requires.within)

pub insert-requires : goal.insert-requires
insert-requires c =
    let t = c.self.inside in
    omega (arith, t.order.ok.0, length-numbered t.made.items t.order.items _ (ap (λ v. v.items) c.self.view_is), c.requires.within)

pub unreachable-requires : goal.unreachable-requires
unreachable-requires c =
    let t = c.self.inside in
    let long = length-numbered t.made.items t.order.items _ (ap (λ v. v.items) c.self.view_is) in
    omega (arith, t.order.ok.0, long, c.requires.room, ap (λ v. v.most) c.self.view_is, c.self.invariant.1.0, c.in_default-insert.ensures.full)
