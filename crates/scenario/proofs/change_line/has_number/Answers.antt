use Rattle.std.proofs.Common.{List, length, nat_lt, ◌∙◌, ap, refl}
use Rattle.clnp_plan.specs.declared.config.PortConfig.{PortConfig}
use Rattle.scenario.specs.Events.{has_number}
use Rattle.scenario.proofs.Found.{found_is, none_is}
use Rattle.scenario.proofs.change_line.has_number.Goals as goal

pub returns-in-Some : goal.returns-in-Some
returns-in-Some c =
    ap (λ number. nat_lt number (length c.ports.result.now)) c.from-in-Some.ensures
    ∙ (ap (λ (ports : List PortConfig). nat_lt c.args.number (length ports)) c.ports.ensures
    ∙ found_is (has_number c.args.number) c.get.result c.in-Some.system c.args.systems.now c.args.systems.now c.from.result c.args.place c.in-Some.is
    c.get.ensures.lookup.1 c.get.ensures.lookup.3 refl c.from.ensures)

pub returns-in-None : goal.returns-in-None
returns-in-None c =
    none_is (has_number c.args.number) c.get.result c.args.systems.now c.args.systems.now c.from.result c.args.place c.in-None.is c.get.ensures.lookup.3
    refl c.from.ensures
