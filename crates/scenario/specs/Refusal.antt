-- How the answers of the reader and the grammar agree, up to want of memory.
use Rattle.std.specs.Prelude.{◌≡◌, Result, Err}
use Rattle.scenario.specs.Grammar.{BadLine as Bad}
use Rattle.scenario.specs.declared.code.Code.{Code}
use Rattle.scenario.specs.declared.fault.LineFault.{LineFault}
use Rattle.scenario.specs.declared.fault.LineFault.TheVariants.{Broken, NoMemory}
use Rattle.scenario.specs.declared.fault.ScenarioRefusal.{ScenarioRefusal}
use Rattle.scenario.specs.declared.fault.ScenarioRefusal.TheVariants as scenario_refusal

-- a bad line is the grammar's very bad line; want of memory alone is free
abbrev pub Refuses : {A : Type 0} → ScenarioRefusal → Result A Bad → Type 0
Refuses scenario_refusal.NoMemory reading = Unit {0}
Refuses (scenario_refusal.BadLine line code) reading = reading ≡ Err (record { line = line; code = code })

-- a code is the grammar's very code for the line; want of memory alone is free
abbrev pub Faults : {A : Type 0} → LineFault → Result A Code → Type 0
Faults NoMemory reading = Unit {0}
Faults (Broken code) reading = reading ≡ Err code
