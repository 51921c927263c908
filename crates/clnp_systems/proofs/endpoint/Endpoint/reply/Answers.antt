use Rattle.std.proofs.Common.{◌∙◌, ◌++◌, ◌∷◌, [], refl, sym, ap, subst, List}
use Rattle.clnp_machine.specs.Local.{Deed}
use Rattle.clnp_systems.specs.declared.endpoint.Endpoint.{Endpoint}
use Rattle.clnp_systems.specs.Endpoint.{StandsWith}
use Rattle.clnp_systems.specs.Local.{Appends}
use Rattle.clnp_systems.specs.declared.action.Action.{Action}
use Rattle.clnp_systems.specs.declared.action.Action.TheVariants.{Note as Noted}
use Rattle.clnp_systems.proofs.Appending.{appends-note}
use Rattle.clnp_systems.proofs.Echoing.{refused_reply, reply_is}
use Rattle.clnp_systems.proofs.endpoint.Endpoint.reply.Goals as goal

pub returns-in-Ok-clause-stands : goal.returns-in-Ok-clause-stands
returns-in-Ok-clause-stands c = λ table s stands moment.
    subst (λ (d : Deed). StandsWith table c.make.new.self d.after)
    (reply_is s c.args.from c.args.to c.args.octets.now c.echo_ask-ask.result (c.echo_ask-ask.ensures.value table s stands))
    (c.in-Ok.ensures.stands table s stands moment)

pub returns-in-Ok-clause-actions : goal.returns-in-Ok-clause-actions
returns-in-Ok-clause-actions c = λ table s stands moment.
    subst (λ (d : Deed). Appends c.args.out.now.items c.make.new.out.items d.actions)
    (reply_is s c.args.from c.args.to c.args.octets.now c.echo_ask-ask.result (c.echo_ask-ask.ensures.value table s stands))
    (c.in-Ok.ensures.actions table s stands moment)

pub returns-in_ok-push-in-Err-clause-stands : goal.returns-in_ok-push-in-Err-clause-stands
returns-in_ok-push-in-Err-clause-stands c = λ table s stands moment.
    subst (λ (d : Deed). StandsWith table c.make.new.self d.after)
    (refused_reply s c.args.from c.args.to c.args.octets.now c.echo_ask-ask.result c.in-Err.refusal c.in_ok-note-in-Err.note
    (c.echo_ask-ask.ensures.value table s stands) c.in_ok-note-in-Err.ensures.note (c.in-Err.ensures.answer table s stands moment))
    (subst (λ (e : Endpoint). StandsWith table e s) (sym c.in-Err.ensures.same) stands)

pub returns-in_ok-push-in-Err-clause-actions : goal.returns-in_ok-push-in-Err-clause-actions
returns-in_ok-push-in-Err-clause-actions c = λ table s stands moment.
    subst (λ (d : Deed). Appends c.args.out.now.items c.push.new.self.items d.actions)
    (refused_reply s c.args.from c.args.to c.args.octets.now c.echo_ask-ask.result c.in-Err.refusal c.in_ok-note-in-Err.note
    (c.echo_ask-ask.ensures.value table s stands) c.in_ok-note-in-Err.ensures.note (c.in-Err.ensures.answer table s stands moment))
    (appends-note c.args.out.now.items c.push.new.self.items c.in_ok-note-in-Err.note c.in_ok-note-in-Err.note
    (c.in_ok-push-in-Err.ensures.items
    ∙ ap (λ (items : List Action). items ++ Noted c.in_ok-note-in-Err.note ∷ []) c.in-Err.ensures.none) refl)
