use Rattle.std.proofs.Common.{◌∙◌, ap, refl}
use Rattle.clnp_plan.specs.declared.config.Settings.{Settings}
use Rattle.scenario.specs.Events.{own_life}
use Rattle.scenario.proofs.Found.{found_is, none_is}
use Rattle.scenario.proofs.event_line.own_life.Goals as goal

pub returns-in-Some : goal.returns-in-Some
returns-in-Some c =
    ap (λ (s : Settings). s.life) c.settings.ensures ∙ found_is own_life c.get.result c.in-Some.system c.args.systems.now c.args.systems.now c.from.result c.args.place c.in-Some.is
    c.get.ensures.lookup.1 c.get.ensures.lookup.3 refl c.from.ensures

pub returns-in-None : goal.returns-in-None
returns-in-None c =
    none_is own_life c.get.result c.args.systems.now c.args.systems.now c.from.result c.args.place c.in-None.is c.get.ensures.lookup.3
    refl c.from.ensures
