use Rattle.std.proofs.Common.{◌∙◌, ap, refl}
use Rattle.scenario.specs.Declarations.{Declarations, mtu_at}
use Rattle.clnp_plan.specs.ScenarioPlan.Plan.{Subnetwork}
use Rattle.scenario.proofs.Found.{found_is, none_is}
use Rattle.scenario.proofs.declarations.Declared.mtu_at.Goals as goal

pub returns-in-Some : goal.returns-in-Some
returns-in-Some c =
    ap (λ (s : Subnetwork). s.mtu) c.subnet.view_is ∙ found_is mtu_at c.get.result c.in-Some.subnet c.deref.result.now c.args.self.now.subnets c.args.place c.args.place c.in-Some.is
    c.get.ensures.lookup.1 c.get.ensures.lookup.3 (c.deref.ensures.value ∙ ap (λ (d : Declarations). d.subnets) c.self.view_is) refl

pub returns-in-None : goal.returns-in-None
returns-in-None c =
    none_is mtu_at c.get.result c.deref.result.now c.args.self.now.subnets c.args.place c.args.place c.in-None.is c.get.ensures.lookup.3
    (c.deref.ensures.value ∙ ap (λ (d : Declarations). d.subnets) c.self.view_is) refl
