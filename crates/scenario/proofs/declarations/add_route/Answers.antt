use Rattle.scenario.specs.Declarations.{with_route}
use Rattle.scenario.proofs.Lists.{changed_on_ok}
use Rattle.scenario.proofs.declarations.add_route.Goals as goal

pub returns : goal.returns
returns c =
    changed_on_ok c.add_route.result (with_route c.args.route) c.args.place c.args.systems.now c.index-systems-place.result c.add_route.new.self
    c.requires c.add_route.ensures
