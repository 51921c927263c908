-- One page more is taken out.
use Rattle.std.proofs.Common.{◌≡◌, ◌++◌, ◌+◌, ◌∙◌, ap, arith, drop, length, length-append, refl, sym, take}
use Rattle.std.specs.List.{remove}
use Rattle.std.proofs.lemmas.List.{length-drop, length-take, take-append-drop}
use Rattle.system_tables.proofs.ReassemblyFacts.Paged.{next_taken}
use Rattle.system_tables.proofs.reassembly.runs.take_pages.Goals as goal

pub loop-init : goal.loop-init
loop-init c = record {
  items = sym (ap (λ n. take c.args.start c.args.pages.now.items ++ drop n c.args.pages.now.items) (let e : c.args.start + 0 ≡ c.args.start = omega arith in e)
      ∙ take-append-drop c.args.start c.args.pages.now.items);
  most = refl;
}

pub remove-requires : goal.remove-requires
remove-requires c =
    let l = c.loop.invariant in
    let pages = c.args.pages.now.items in
    omega (
      arith,
      ap length l.items,
      length-append (take c.args.start pages) (drop (c.args.start + c.loop.counter) pages),
      length-take c.args.start pages,
      length-drop (c.args.start + c.loop.counter) pages,
      c.requires,
      c.loop-test.true,
    )

pub loop-preserved : goal.loop-preserved
loop-preserved c = record {
  items = c.remove.ensures.items ∙ ap (λ p. remove p c.args.start) c.loop.invariant.items
      ∙ next_taken c.args.pages.now.items c.args.start c.loop.counter (omega (arith, c.requires, c.loop-test.true));
  most = c.remove.ensures.most ∙ c.loop.invariant.most;
}

pub returns-clause-items : goal.returns-clause-items
returns-clause-items c =
    let all : c.loop.counter ≡ c.args.count = omega (arith, c.loop-test.false, c.loop.auto.counter-end) in
    c.loop.invariant.items ∙ ap (λ n. take c.args.start c.args.pages.now.items ++ drop (c.args.start + n) c.args.pages.now.items) all
