-- The unit goes out by the port of the hop, where it is there.
use Rattle.std.proofs.Common.{refl, sym, ap, subst, List, Option, None}
use Rattle.std.proofs.lemmas.Result.{on_ok_weaker}
use Rattle.clnp_machine.specs.Given.{Appends}
use Rattle.clnp_machine.specs.Step.{first_sent}
use Rattle.clnp_machine.specs.declared.way.Hop.{Hop}
use Rattle.clnp_machine.specs.System.{Output}
use Rattle.clnp_machine.proofs.Given.{appends_note}
use Rattle.clnp_systems.proofs.Sent.{port_at, port_missing, sent_by, sent_by_none}
use Rattle.clnp_systems.proofs.sending.send_unit.Goals as goal

pub returns-in_default-clause-sent : goal.returns-in_default-clause-sent
returns-in_default-clause-sent c =
    on_ok_weaker c.note.result
    (λ written s u same does first.
    subst (λ (others : List Output). Appends u.made None c.args.out.now.items c.note.new.out.items others)
    (ap (λ (way : Option Hop). first_sent s u way) (sym c.in_default.is))
    (appends_note u.made None c.args.out.now.items c.note.new.out.items _ _ written refl))
    c.note.ensures.noted

pub returns-in_default-get-clause-sent : goal.returns-in_default-get-clause-sent
returns-in_default-get-clause-sent c =
    on_ok_weaker c.note-in_default-get.result
    (λ written s u same does first.
    let none = port_missing c.args.ports.now c.in-Some.hop.port c.from.result c.from.ensures c.in_default-get.ensures.lookup.0 in
    subst (λ (others : List Output). Appends u.made None c.args.out.now.items c.note-in_default-get.new.out.items others)
    (sent_by_none s u c.in-Some.hop c.args.hop c.args.ports.now same c.in-Some.is none)
    (appends_note u.made None c.args.out.now.items c.note-in_default-get.new.out.items _ _ written refl))
    c.note-in_default-get.ensures.noted

pub returns-clause-sent : goal.returns-clause-sent
returns-clause-sent c =
    on_ok_weaker c.send_on.result
    (λ given s u same does first.
    subst (λ (others : List Output). Appends u.made None c.args.out.now.items c.send_on.new.out.items others)
    (sent_by s u c.in-Some.hop c.args.hop c.args.ports.now c.in-Some-get.port.now same c.in-Some.is
    (port_at c.args.ports.now c.in-Some.hop.port c.from.result c.in-Some-get.port.now c.from.ensures c.in-Some-get.ensures.lookup.0
    c.in-Some-get.ensures.lookup.1))
    (given u does first))
    c.send_on.ensures.sent
