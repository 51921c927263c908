use Rattle.std.proofs.Common.{◌≡◌, ◌∙◌, ◌-◌, length, Some, ap, sym}
use Rattle.std.specs.Prelude.{slice_get}
use Rattle.std.specs.Option.{option_copied}
use Rattle.system_tables.specs.Reassembly.Pages.{ends_behind}
use Rattle.system_tables.proofs.ReassemblyFacts.Apart.{ends_at}
use Rattle.system_tables.proofs.reassembly.page.Page.ends_behind.Goals as goal

pub returns-in-Some : goal.returns-in-Some
returns-in-Some c =
    let runs = c.runs.result.now in
    let is : slice_get runs (length runs - 1) ≡ Some c.in-Some.run'.now = sym c.last.ensures.value ∙ ap option_copied c.in-Some.is in
    sym (ap (ends_behind c.args.place) (sym c.runs.ensures) ∙ ends_at c.args.place runs c.in-Some.run'.now is)
