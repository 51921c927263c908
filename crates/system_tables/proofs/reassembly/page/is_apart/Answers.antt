use Rattle.std.proofs.Common.{◌≡◌, ◌∙◌, ◌-◌, length, Some, ap, leb-true, sym}
use Rattle.std.specs.Prelude.{slice_get}
use Rattle.std.specs.Option.{option_copied}
use Rattle.system_tables.proofs.ReassemblyFacts.Apart.{begun_apart, ended_apart}
use Rattle.system_tables.proofs.reassembly.page.is_apart.Goals as goal

pub returns-then-last-from : goal.returns-then-last-from
returns-then-last-from c e =
    let runs = c.args.runs.now in
    let last : slice_get runs (length runs - 1) ≡ Some c.in-Some-Some.last.now = sym c.last.ensures.value ∙ ap option_copied c.in-Some-Some.is-1 in
    ended_apart c.args.from c.args.to runs c.requires c.in-Some-Some.last.now last c.if-last-from.true

pub returns-else-last-from : goal.returns-else-last-from
returns-else-last-from c e =
    let runs = c.args.runs.now in
    let first : slice_get runs 0 ≡ Some c.in-Some-Some.first.now = sym c.first.ensures.value ∙ ap option_copied c.in-Some-Some.is-0 in
    begun_apart c.args.from c.args.to runs c.requires c.in-Some-Some.first.now first (leb-true c.args.to c.in-Some-Some.first.now.from e)
