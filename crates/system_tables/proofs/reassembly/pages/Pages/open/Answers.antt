-- The page is one that was free, or is new; its number stands behind the others.
use Rattle.std.proofs.Common.{◌++◌, ◌∷◌, [], ◌∙◌, ap, arith, length}
use Rattle.std.specs.Prelude.{slice_set}
use Rattle.std.proofs.lemmas.List.{length-set}
use Rattle.system_tables.specs.Reassembly.Pages.{numbered}
use Rattle.system_tables.specs.Reassembly.Runs.{unfilled}
use Rattle.system_tables.proofs.ReassemblyFacts.Numbered.{length-numbered, push_kept, push_pages, taken_below}
use Rattle.system_tables.proofs.reassembly.pages.Pages.open.Goals as goal

pub invariant_of-self : goal.invariant_of-self
invariant_of-self c =
    let t = c.self.inside in
    let p = c.take_page-number in
    let i = c.self.invariant in
    let long = length-numbered t.made.items t.order.items _ (ap (λ v. v.items) c.self.view_is) in
    let kept = push_kept t.order.items t.free.items t.made.items t.most i.0 p.result p.new.made.items p.new.free.items p.ensures.taken
    (length (slice_set p.new.made.items p.result c.open.new.self)) c.push.new.self.items
    (length-set p.new.made.items p.result c.open.new.self) (omega (arith, long, c.requires, ap (λ v. v.most) c.self.view_is)) c.in-Ok.ensures.items in (
      kept,
      (omega (arith, i.1.0, c.in-Ok.ensures.capacity), (omega (arith, i.1.1.0, p.ensures.free_capacity), omega (arith, i.1.1.1, p.ensures.capacity))),
    )

pub returns-clause-items : goal.returns-clause-items
returns-clause-items c =
    let t = c.self.inside in
    let p = c.take_page-number in
    ap (numbered (slice_set p.new.made.items p.result c.open.new.self)) c.in-Ok.ensures.items
    ∙ push_pages t.order.items t.free.items t.made.items t.most c.self.invariant.0 p.result p.new.made.items p.new.free.items p.ensures.taken c.open.new.self
    ∙ ap (λ page. numbered t.made.items t.order.items ++ page ∷ []) c.open.ensures
    ∙ ap (λ v. v.items ++ unfilled c.args.places ∷ []) c.self.view_is

pub take_page-number-requires : goal.take_page-number-requires
take_page-number-requires c none =
    let t = c.self.inside in
    let long = length-numbered t.made.items t.order.items _ (ap (λ v. v.items) c.self.view_is) in
    omega (arith, none, c.self.invariant.0.all, long, c.requires, ap (λ v. v.most) c.self.view_is, c.self.invariant.1.1.1)

pub index_mut-requires : goal.index_mut-requires
index_mut-requires c =
    let t = c.self.inside in
    let p = c.take_page-number in
    omega (
      arith,
      p.new.made.ok.0,
      taken_below t.order.items t.free.items t.made.items t.most c.self.invariant.0 p.result p.new.made.items p.new.free.items p.ensures.taken,
    )

pub unreachable-requires : goal.unreachable-requires
unreachable-requires c =
    let t = c.self.inside in
    let long = length-numbered t.made.items t.order.items _ (ap (λ v. v.items) c.self.view_is) in
    omega (arith, t.order.ok.0, long, c.requires, ap (λ v. v.most) c.self.view_is, c.self.invariant.1.0, c.in_default.ensures.full)

pub returns-clause-most : goal.returns-clause-most
returns-clause-most c = ap (λ v. v.most) c.self.view_is
