-- It is noted, and both parts are restarted.
use Rattle.std.proofs.Common.{◌∙◌, refl, sym, subst, None}
use Rattle.clnp_machine.specs.ClnpPlan.declared.note.Note.TheVariants.{Restart}
use Rattle.clnp_systems.specs.EntityState.{SystemEntityState}
use Rattle.clnp_systems.specs.EntityStands.{Stands}
use Rattle.clnp_systems.proofs.Outputs.{appends_note}
use Rattle.clnp_systems.proofs.entity.SystemEntity.restart_and_note.Goals as goal

pub returns-clause-step : goal.returns-clause-step
returns-clause-step c = λ role. record {
  stands = λ s h. c.restart.ensures.stands s (subst (λ (e : SystemEntityState). Stands e s) (sym c.in_ok-note.ensures.same) h);
  outputs = λ s h. appends_note s.moment None c.args.out.now.items c.note.new.out.items Restart Restart c.in_ok-note.ensures.noted refl;
  moment = c.restart.ensures.moment ∙ c.in_ok-note.ensures.moment;
  config = c.restart.ensures.config ∙ c.in_ok-note.ensures.config;
}
