-- How the answers of the reader and the grammar agree, up to want of memory.
use Rattle.std.specs.Prelude.{◌≡◌, Result, Err}
use Rattle.scenario.specs.Grammar.{BadLine as Bad}
use Rattle.clnp_program.specs.declared.fair_commands.fault.CaptureRefusal.{CaptureRefusal}
use Rattle.clnp_program.specs.declared.fair_commands.fault.CaptureRefusal.TheVariants as capture_refusal

-- a bad line is the grammar's very bad line; want of memory alone is free
abbrev pub Refuses : {A : Type 0} → CaptureRefusal → Result A Bad → Type 0
Refuses capture_refusal.NoMemory reading = Unit {0}
Refuses (capture_refusal.BadLine line code) reading = reading ≡ Err (record { line = line; code = code })
