-- No run before or behind those between the places becomes a piece.
use Rattle.std.proofs.Common.{◌++◌, ◌-◌, take, drop, ap, ◌∙◌}
use Rattle.system_tables.proofs.ReassemblyFacts.Apart.{none_marked}
use Rattle.system_tables.proofs.ReassemblyFacts.Searching.{front_order, marked_between}
use Rattle.system_tables.proofs.reassembly.page.mark_holes.Goals as goal

pub ended_by-first-requires : goal.ended_by-first-requires
ended_by-first-requires c = front_order c.args.runs.now c.begun_before-last.result c.requires

pub returns : goal.returns
returns c =
    let first = c.ended_by-first.result in
    let last = c.begun_before-last.result in
    let runs = c.args.runs.now in
    ap (λ l. take first runs ++ (l ++ drop (last - first) (drop first runs))) c.mark_each-2.ensures
    ∙ marked_between c.args.from c.args.to first last runs c.requires
    c.begun_before-last.ensures.within c.ended_by-first.ensures.within c.ended_by-first.ensures.ended c.begun_before-last.ensures.others c.args.by

pub returns-then-is_apart : goal.returns-then-is_apart
returns-then-is_apart c = none_marked c.args.from c.args.to c.args.by c.args.runs.now c.requires (c.is_apart.ensures c.if-is_apart.true)
