use Rattle.std.proofs.Common.{◌∙◌}
use Rattle.clnp_machine.specs.Esis.{hears_each}
use Rattle.clnp_machine.specs.System.{Effect}
use Rattle.clnp_systems.proofs.Effects.{does_answer}
use Rattle.clnp_systems.proofs.Hearing.{hears_alike}
use Rattle.clnp_systems.proofs.EsisTicking.{on_ok}
use Rattle.clnp_systems.proofs.esis.EsisEntity.hear_end_system.Goals as goal

pub returns-clause-done : goal.returns-clause-done
returns-clause-done c =
    on_ok c.answer.result
    (λ told s h same at.
    let heard : Effect = hears_each s c.args.addresses c.args.neighbour.now c.args.hold in
    let does = c.in_ok-new.ensures.heard s h at in
    does_answer c.args.now c.hear_each.new.self c.args.out.now.items c.hear_each.new.out.items c.answer.new.out.items c.in_ok-new.new heard c.args.neighbour.now does
    (told heard.after c.args.now does.does.stands (hears_alike s c.args.addresses c.args.neighbour.now c.args.hold ∙ same)))
    c.answer.ensures.told
