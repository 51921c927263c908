use Rattle.std.proofs.Common.{◌∙◌, ap, refl}
use Rattle.scenario.specs.Events.{is_host, is_host_at}
use Rattle.scenario.proofs.Found.{found_is, none_is}
use Rattle.scenario.proofs.event_line.is_host_at.Goals as goal

pub returns-in-Some : goal.returns-in-Some
returns-in-Some c =
    c.is_host.ensures ∙ (ap is_host c.role.ensures ∙ found_is is_host_at c.get.result c.in-Some.system c.args.systems.now c.args.systems.now c.from.result c.args.place c.in-Some.is
    c.get.ensures.lookup.1 c.get.ensures.lookup.3 refl c.from.ensures)

pub returns-in-None : goal.returns-in-None
returns-in-None c =
    none_is is_host_at c.get.result c.args.systems.now c.args.systems.now c.from.result c.args.place c.in-None.is c.get.ensures.lookup.3
    refl c.from.ensures
