-- By the kind of the unit.
use Rattle.std.proofs.Common.{◌∙◌, refl, sym, ap, subst}
use Rattle.std.proofs.lemmas.Result.{on_ok_weaker}
use Rattle.clnp_machine.specs.Local.{Deed, is_replied, replies}
use Rattle.clnp_systems.specs.Endpoint.{StandsWith}
use Rattle.clnp_systems.specs.Local.{Appends}
use Rattle.clnp_systems.proofs.Appending.{appends-note}
use Rattle.clnp_systems.proofs.Echoing.{handed_data, handed_reply, handed_report, handed_request}
use Rattle.clnp_systems.proofs.endpoint.Endpoint.hand_up.Goals as goal

pub returns-in-Request-clause-actions : goal.returns-in-Request-clause-actions
returns-in-Request-clause-actions c =
    on_ok_weaker c.reply.result
    (λ replied table s kind options stands moment purpose.
    subst (λ (d : Deed). Appends c.args.out.now.items c.reply.new.out.items d.actions)
    (ap (replies s c.args.from c.args.to) c.as_bytes.ensures ∙ handed_request s kind c.args.from c.args.to c.args.octets options (sym c.in-Request.is ∙ purpose))
    (replied table s stands moment))
    c.reply.ensures.actions

pub returns-in-Reply-clause-actions : goal.returns-in-Reply-clause-actions
returns-in-Reply-clause-actions c =
    on_ok_weaker c.take_reply.result
    (λ replied table s kind options stands moment purpose.
    subst (λ (d : Deed). Appends c.args.out.now.items c.take_reply.new.out.items d.actions)
    (ap (is_replied s c.args.from c.args.to) c.as_bytes-in-Reply.ensures ∙ handed_reply s kind c.args.from c.args.to c.args.octets options (sym c.in-Reply.is ∙ purpose))
    (replied table s stands))
    c.take_reply.ensures.actions

pub returns-in-Data-clause-stands : goal.returns-in-Data-clause-stands
returns-in-Data-clause-stands c =
    on_ok_weaker c.append.result
    (λ noted table s kind options stands moment purpose.
    subst (λ (d : Deed). StandsWith table c.args.self.now d.after)
    (handed_data s kind c.args.from c.args.to c.args.octets options (sym c.in-Data.is ∙ purpose)) stands)
    c.append.ensures.noted

pub returns-in-Data-clause-actions : goal.returns-in-Data-clause-actions
returns-in-Data-clause-actions c =
    on_ok_weaker c.append.result
    (λ noted table s kind options stands moment purpose.
    subst (λ (d : Deed). Appends c.args.out.now.items c.append.new.out.items d.actions)
    (handed_data s kind c.args.from c.args.to c.args.octets options (sym c.in-Data.is ∙ purpose))
    (appends-note c.args.out.now.items c.append.new.out.items _ _ noted refl))
    c.append.ensures.noted

pub returns-in-Report-clause-stands : goal.returns-in-Report-clause-stands
returns-in-Report-clause-stands c =
    on_ok_weaker c.append-in-Report.result
    (λ noted table s kind options stands moment purpose.
    subst (λ (d : Deed). StandsWith table c.args.self.now d.after)
    (handed_report s kind c.args.from c.args.to c.args.octets options c.in-Report.reason c.in-Report.place (sym c.in-Report.is ∙ purpose)) stands)
    c.append-in-Report.ensures.noted

pub returns-in-Report-clause-actions : goal.returns-in-Report-clause-actions
returns-in-Report-clause-actions c =
    on_ok_weaker c.append-in-Report.result
    (λ noted table s kind options stands moment purpose.
    subst (λ (d : Deed). Appends c.args.out.now.items c.append-in-Report.new.out.items d.actions)
    (handed_report s kind c.args.from c.args.to c.args.octets options c.in-Report.reason c.in-Report.place (sym c.in-Report.is ∙ purpose))
    (appends-note c.args.out.now.items c.append-in-Report.new.out.items _ _ noted refl))
    c.append-in-Report.ensures.noted

pub returns-in-Request-clause-stands : goal.returns-in-Request-clause-stands
returns-in-Request-clause-stands c =
    on_ok_weaker c.reply.result
    (λ replied table s kind options stands moment purpose.
    subst (λ (d : Deed). StandsWith table c.reply.new.self d.after)
    (ap (replies s c.args.from c.args.to) c.as_bytes.ensures ∙ handed_request s kind c.args.from c.args.to c.args.octets options (sym c.in-Request.is ∙ purpose))
    (replied table s stands moment))
    c.reply.ensures.stands

pub returns-in-Reply-clause-stands : goal.returns-in-Reply-clause-stands
returns-in-Reply-clause-stands c =
    on_ok_weaker c.take_reply.result
    (λ replied table s kind options stands moment purpose.
    subst (λ (d : Deed). StandsWith table c.take_reply.new.self d.after)
    (ap (is_replied s c.args.from c.args.to) c.as_bytes-in-Reply.ensures ∙ handed_reply s kind c.args.from c.args.to c.args.octets options (sym c.in-Reply.is ∙ purpose))
    (replied table s stands))
    c.take_reply.ensures.stands
