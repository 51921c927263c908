use Rattle.clnp_machine.specs.SystemTables.declared.esis_tables.fact.TableKind.TheVariants.{Is}
use Rattle.clnp_machine.specs.Esis.{hears}
use Rattle.clnp_machine.specs.System.{Effect}
use Rattle.clnp_systems.proofs.Effects.{does_answer}
use Rattle.clnp_systems.proofs.EsisTicking.{on_ok}
use Rattle.clnp_systems.proofs.esis.EsisEntity.hear_router.Goals as goal

pub returns-clause-outputs : goal.returns-clause-outputs
returns-clause-outputs c =
    on_ok c.answer.result
    (λ told s h same at.
    let heard : Effect = hears s Is c.args.title c.args.neighbour.now c.args.hold in
    let does = c.in_ok-new.ensures.heard s h at in
    (does_answer c.args.now c.hear_key.new.self c.args.out.now.items c.hear_key.new.out.items c.answer.new.out.items c.in_ok-new.new heard c.args.neighbour.now does
    (told heard.after c.args.now does.does.stands same)).appends)
    c.answer.ensures.told
