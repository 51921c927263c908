use Rattle.std.proofs.Common.{◌≡◌, ◌++◌}
use Rattle.captures.specs.EsisShown.{addresses_text}
use Rattle.captures.specs.Kept.{Keeps}
use Rattle.captures.proofs.esis.push_addresses.Given as goal

-- what is written and what is left to write are all addresses, behind what stood there
abbrev pub invariant-loop-address : goal.invariant-loop-address
invariant-loop-address l =
    (l.line.items ++ addresses_text l.address-iterator ≡ l.initial.line.items ++ addresses_text l.initial.address-iterator)
    × Keeps l.initial.line.items l.line.items
