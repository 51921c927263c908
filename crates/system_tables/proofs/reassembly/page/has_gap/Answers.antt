-- No run before or behind those between the places is such a hole.
use Rattle.std.proofs.Common.{◌∙◌}
use Rattle.system_tables.proofs.ReassemblyFacts.Apart.{no_gap}
use Rattle.system_tables.proofs.ReassemblyFacts.Searching.{front_order, gap_between}
use Rattle.system_tables.proofs.reassembly.page.has_gap.Goals as goal

pub ended_by-first-requires : goal.ended_by-first-requires
ended_by-first-requires c = front_order c.args.runs.now c.begun_before-last.result c.requires

pub returns : goal.returns
returns c =
    c.is_gap_among-2.ensures ∙ gap_between c.args.from c.args.to c.ended_by-first.result c.begun_before-last.result c.args.runs.now c.requires
    c.begun_before-last.ensures.within c.ended_by-first.ensures.within c.ended_by-first.ensures.ended c.begun_before-last.ensures.others

pub returns-then-is_apart : goal.returns-then-is_apart
returns-then-is_apart c = no_gap c.args.from c.args.to c.args.runs.now (c.is_apart.ensures c.if-is_apart.true)
