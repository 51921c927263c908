-- From every place on, all lines call for some output.
use Rattle.clnp_base.proofs.CommandBase.ByLine.{Total}
use Rattle.captures.specs.CaptureCommands.Show.{showing}
use Rattle.captures.specs.CaptureCommands.Check.{checking}
use Rattle.captures.proofs.CaptureCommands.Outputs.{SomeLine, SomeVerdict, some_shown, some_checked}

pub show_total : SomeLine → Total showing
show_total law = λ lines number. some_shown law lines

pub check_total : SomeVerdict → Total checking
check_total law = λ lines place. some_checked law lines place.number place.tally
