use Rattle.std.proofs.Common.{[]}
use Rattle.system_tables.specs.FairReassembly.Classes.{account_behind}
use Rattle.system_tables.proofs.FairReassembly.Alone.{each_behind-append}
use Rattle.system_tables.proofs.fair_reassembly.laws.what_is_told_goes_on.Goals as goal

pub returns : goal.returns
returns c = λ s before later. each_behind-append (account_behind s) [] before later
