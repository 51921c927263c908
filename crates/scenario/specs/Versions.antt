-- How texts of version 1 alone are read.
use Rattle.std.specs.Prelude.{◌≡◌, ℕ, ◌-◌, List, Result, Ok, Err}
use Rattle.scenario.specs.Codes.{number_of}
use Rattle.scenario.specs.Grammar.{BadLine, ReadTo, plan_of, plan_of_version_1}
use Rattle.scenario.specs.declared.code.Code.TheVariants as bad

-- A text is read as one of version 1 alone as it is read anyhow, unless its header says version 2: then that line is the first
-- bad one.
abbrev pub IsReadAlike : List ℕ → Result (ReadTo ℕ) BadLine → Type 0
IsReadAlike text (Err bad) = plan_of_version_1 text ≡ plan_of text
IsReadAlike text (Ok header) =
    (header.value ≡ 1 → plan_of_version_1 text ≡ plan_of text)
    × (header.value ≡ 2 → plan_of_version_1 text ≡ Err (record { line = header.number - 1; code = number_of bad.Header }))
