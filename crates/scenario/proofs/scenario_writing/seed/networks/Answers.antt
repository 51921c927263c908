use Rattle.std.proofs.Common.{[]}
use Rattle.scenario.specs.Grammar.{plan_of}
use Rattle.scenario.specs.ScenarioWriting.Seeds.{two_networks}
use Rattle.scenario.proofs.ScenarioWriting.Seeded.{declared_text, declared_text_read, never_refused, read_is}
use Rattle.scenario.proofs.scenario_writing.seed.networks.Goals as goal

pub unreachable-requires : goal.unreachable-requires
unreachable-requires c =
    never_refused (plan_of declared_text) (two_networks []) declared_text_read c.read.result c.in-Err-BadLine.field-0 c.in-Err-BadLine.field-0-0 c.in-Err-BadLine.field-0-1
    c.in-Err-BadLine.is c.in-Err-BadLine.field-0-is c.read.ensures

pub returns-in-Ok : goal.returns-in-Ok
returns-in-Ok c =
    read_is (plan_of declared_text) (two_networks []) declared_text_read c.read.result c.in-Ok.scenario c.in-Ok.is c.read.ensures
