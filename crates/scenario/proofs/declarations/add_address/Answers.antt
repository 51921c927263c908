use Rattle.scenario.specs.Declarations.{with_address}
use Rattle.scenario.proofs.Lists.{changed_on_ok}
use Rattle.scenario.proofs.declarations.add_address.Goals as goal

pub returns : goal.returns
returns c =
    changed_on_ok c.add_address.result (with_address c.args.address) c.args.place c.args.systems.now c.index-systems-place.result c.add_address.new.self
    c.requires c.add_address.ensures
