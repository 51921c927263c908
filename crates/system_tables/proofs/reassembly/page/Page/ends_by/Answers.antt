-- The runs end where the last of them does.
use Rattle.std.proofs.Common.{◌≡◌, ◌∙◌, ◌-◌, length, leb-true, Some, ap, sym, arith}
use Rattle.std.specs.Prelude.{slice_get}
use Rattle.std.specs.Option.{option_copied}
use Rattle.system_tables.proofs.ReassemblyFacts.Apart.{last_to}
use Rattle.system_tables.proofs.reassembly.page.Page.ends_by.Goals as goal

pub returns-in-Some : goal.returns-in-Some
returns-in-Some c low high ends joined =
    let runs = c.runs.result.now in
    let is : slice_get runs (length runs - 1) ≡ Some c.in-Some.run'.now = sym c.last.ensures.value ∙ ap option_copied c.in-Some.is in
    let same = c.runs.ensures in
    omega (
      arith,
      last_to low high c.args.self.now c.in-Some.run'.now joined (ap (λ l. slice_get l (length l - 1)) (sym same) ∙ is),
      leb-true c.in-Some.run'.now.to c.args.place ends,
    )
