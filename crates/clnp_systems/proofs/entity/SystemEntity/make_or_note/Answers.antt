-- The unit is made, or its refusal is noted.
use Rattle.std.proofs.Common.{◌∙◌, ap, sym, subst, List, ◌++◌, ◌∷◌, []}
use Rattle.clnp_machine.specs.ClnpPlan.declared.output.Output.{Output}
use Rattle.clnp_machine.specs.ClnpPlan.declared.output.Output.TheVariants.{Note as Told}
use Rattle.clnp_systems.specs.EntityState.{SystemEntityState}
use Rattle.clnp_systems.specs.EntityStands.{Stands}
use Rattle.clnp_systems.proofs.Both.{on_ok_both}
use Rattle.clnp_systems.proofs.Refused.{leaves_same, refused_does}
use Rattle.clnp_systems.proofs.entity.SystemEntity.make_or_note.Goals as goal

pub returns-in-Ok-clause-did : goal.returns-in-Ok-clause-did
returns-in-Ok-clause-did c = λ s h. record { stands = c.in-Ok.ensures.stands s h; outputs = c.in-Ok.ensures.outputs s h }

pub returns-in_ok-note-in-Err-clause-did : goal.returns-in_ok-note-in-Err-clause-did
returns-in_ok-note-in-Err-clause-did c =
    let note = c.in_ok-note-in-Err.note in
    let said = c.in_ok-note-in-Err.ensures.note in
    on_ok_both c.note.result (λ same noted s h.
    refused_does s c.args.kind c.args.from c.args.to c.args.body.now c.args.ask.now c.in-Err.refusal note said (c.in-Err.ensures.answer s h)
    c.note.new.self c.args.out.now.items c.note.new.out.items
    (subst (λ (e : SystemEntityState). Stands e s)
    (sym (same ∙ leaves_same c.in-Err.refusal note c.args.self.now c.make.new.self said c.in-Err.ensures.left)) h)
    (noted ∙ ap (λ (outputs : List Output). outputs ++ Told note ∷ []) c.in-Err.ensures.none))
    c.note.ensures.same c.note.ensures.noted
