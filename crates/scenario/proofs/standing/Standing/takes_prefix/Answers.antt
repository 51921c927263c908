use Rattle.std.proofs.Common.{◌∙◌, ap}
use Rattle.clnp_plan.specs.ScenarioPlan.Standing.{Standing, takes_prefix}
use Rattle.scenario.proofs.Found.{found_is, none_is}
use Rattle.scenario.proofs.standing.Standing.takes_prefix.Goals as goal

pub returns-in-Some : goal.returns-in-Some
returns-in-Some c =
    c.takes.ensures ∙ found_is (takes_prefix c.args.prefix.now) c.get.result c.in-Some.known c.deref.result.now c.args.self.now.prefixes c.from.result c.args.system c.in-Some.is
    c.get.ensures.lookup.1 c.get.ensures.lookup.3 (c.deref.ensures.value ∙ ap (λ (d : Standing). d.prefixes) c.self.view_is) c.from.ensures

pub returns-in-None : goal.returns-in-None
returns-in-None c =
    none_is (takes_prefix c.args.prefix.now) c.get.result c.deref.result.now c.args.self.now.prefixes c.from.result c.args.system c.in-None.is c.get.ensures.lookup.3
    (c.deref.ensures.value ∙ ap (λ (d : Standing). d.prefixes) c.self.view_is) c.from.ensures
