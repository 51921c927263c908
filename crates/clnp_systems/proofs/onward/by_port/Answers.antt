-- The header has what is left of the lifetime.
use Rattle.clnp_machine.specs.Step.{loss_at}
use Rattle.clnp_systems.proofs.Going.{lives}
use Rattle.clnp_systems.proofs.onward.by_port.Goals as goal

pub returns-clause-goes : goal.returns-clause-goes
returns-clause-goes c = λ s came p following carriable has edited.
    lives s came p following c.args.way c.args.port.now c.args.passing.now c.life_left.result c.in-Some.life c.args.head.now c.set_life.new.self
    c.route_target.result c.is_some-towards_title.result has c.life_left.ensures c.in-Some.is edited c.route_target.ensures
    c.is_some-towards_title.ensures c.set_life.ensures.spells
    (c.what_goes_on_has_its_value.ensures.value s p (loss_at c.args.port.now) carriable)
