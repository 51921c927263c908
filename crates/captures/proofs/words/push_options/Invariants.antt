use Rattle.std.proofs.Common.{◌≡◌, ◌++◌, length}
use Rattle.pdus.specs.ClnpOptions.Parameter.{parameters}
use Rattle.captures.specs.Kept.{Keeps}
use Rattle.captures.specs.Words.{options_text}
use Rattle.captures.proofs.words.push_options.Given as goal

-- what is written and what is left to write are all options, behind what stood there
abbrev pub invariant-loop-code : goal.invariant-loop-code
invariant-loop-code l =
    (l.line.items ++ options_text (parameters l.left) ≡ l.initial.line.items ++ options_text (parameters l.initial.left))
    × Keeps l.initial.line.items l.line.items

abbrev pub decreases-loop-code : goal.decreases-loop-code
decreases-loop-code l = length l.left
