-- The codes of bad lines: the number and the name of each.
use Rattle.std.specs.Prelude.{ℕ, List, codes}
use Rattle.scenario.specs.declared.code.Code.{Code}
use Rattle.scenario.specs.declared.code.Code.TheVariants as bad

abbrev pub number_of : Code → ℕ
number_of bad.Header = 1
number_of bad.Syntax = 2
number_of bad.Number = 3
number_of bad.Address = 4
number_of bad.UnknownName = 5
number_of bad.DupName = 6
number_of bad.DupAddress = 7
number_of bad.Limits = 8
number_of bad.Mtu = 9
number_of bad.Count = 10

abbrev pub name_of : Code → List ℕ
name_of bad.Header = codes "header"
name_of bad.Syntax = codes "syntax"
name_of bad.Number = codes "number"
name_of bad.Address = codes "address"
name_of bad.UnknownName = codes "unknown-name"
name_of bad.DupName = codes "dup-name"
name_of bad.DupAddress = codes "dup-address"
name_of bad.Limits = codes "limits"
name_of bad.Mtu = codes "mtu"
name_of bad.Count = codes "count"
