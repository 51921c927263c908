use Rattle.std.proofs.Common.{sym, ◌∙◌}
use Rattle.std.specs.Str.{bytes_eq}
use Rattle.clnp_plan.specs.ScenarioPlan.Plan.{Subnetwork}
use Rattle.clnp_plan.proofs.ClnpBase.Maps.{position-map}
use Rattle.scenario.proofs.declarations.Declared.subnet_place.Goals as goal

pub returns-clause-place : goal.returns-clause-place
returns-clause-place c =
    c.first_subnet.ensures.place ∙ sym (position-map (λ (subnet : Subnetwork). subnet.name) (λ name. bytes_eq name c.args.name.now) c.args.self.now.subnets)
