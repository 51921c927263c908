-- The bit follows the title.
use Rattle.std.proofs.Common.{sym, subst, Bool}
use Rattle.clnp_machine.specs.ClnpOptions.Edits.{edited, recorded}
use Rattle.clnp_machine.specs.ClnpOptions.Parameter.{recording}
use Rattle.clnp_machine.specs.Step.{noting_congestion}
use Rattle.clnp_machine.specs.PduHeader.Headers.{SpellsHeader, with_options}
use Rattle.clnp_systems.proofs.passage.tell.Goals as goal

pub returns-then-congested : goal.returns-then-congested
returns-then-congested c = λ v spells.
    let told = with_options (edited recording (recorded c.args.title.now) v.options) v in
    subst (λ (b : Bool). SpellsHeader (with_options (noting_congestion b told.options) v) c.mark_congestion.new.self) (sym c.if-congested.true)
    (c.mark_congestion.ensures.spells told (c.record_title.ensures.spells v spells))
