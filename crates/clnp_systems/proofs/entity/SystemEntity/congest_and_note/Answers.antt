-- It is noted, and nothing else changes but that it is congested or not.
use Rattle.std.proofs.Common.{◌∙◌, refl, sym, subst, None}
use Rattle.clnp_machine.specs.ClnpPlan.declared.note.Note.TheVariants.{Congest}
use Rattle.clnp_systems.specs.EntityState.{SystemEntityState}
use Rattle.clnp_systems.specs.EntityStands.{Stands}
use Rattle.clnp_systems.proofs.Outputs.{appends_note}
use Rattle.clnp_systems.proofs.entity.SystemEntity.congest_and_note.Goals as goal

pub returns-clause-step : goal.returns-clause-step
returns-clause-step c = λ role. record {
  stands = λ s h. c.congest.ensures.stands s (subst (λ (e : SystemEntityState). Stands e s) (sym c.in_ok-note.ensures.same) h);
  outputs = λ s h. appends_note s.moment None c.args.out.now.items c.note.new.out.items (Congest c.args.on) (Congest c.args.on) c.in_ok-note.ensures.noted refl;
  moment = c.congest.ensures.moment ∙ c.in_ok-note.ensures.moment;
  config = c.congest.ensures.config ∙ c.in_ok-note.ensures.config;
}
