use Rattle.scenario.specs.Declarations.{with_port}
use Rattle.scenario.proofs.Lists.{changed_on_ok}
use Rattle.scenario.proofs.declarations.add_port.Goals as goal

pub returns : goal.returns
returns c =
    changed_on_ok c.add_port.result (with_port c.args.port) c.args.place c.args.systems.now c.index-systems-place.result c.add_port.new.self
    c.requires c.add_port.ensures
