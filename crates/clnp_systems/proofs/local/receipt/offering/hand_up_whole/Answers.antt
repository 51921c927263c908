-- What is handed up are the data at the slot.
use Rattle.std.proofs.Common.{ℕ, List, subst}
use Rattle.std.proofs.lemmas.Result.{on_ok_weaker}
use Rattle.clnp_machine.specs.Local.{hand_up}
use Rattle.clnp_systems.specs.Endpoint.{StandsWith}
use Rattle.clnp_systems.specs.Local.{Appends}
use Rattle.clnp_systems.proofs.local.receipt.offering.hand_up_whole.Goals as goal

pub returns-clause-stands : goal.returns-clause-stands
returns-clause-stands c =
    on_ok_weaker c.hand_up.result
    (λ handed s kind options octets stands moment purpose are.
    subst (λ (joined : List ℕ). StandsWith c.args.table.now c.hand_up.new.self (hand_up s kind c.args.key.from c.args.key.to joined options).after)
    (c.in_ok-octets.ensures octets are) (handed c.args.table.now s kind options stands moment purpose))
    c.hand_up.ensures.stands

pub returns-clause-actions : goal.returns-clause-actions
returns-clause-actions c =
    on_ok_weaker c.hand_up.result
    (λ handed s kind options octets stands moment purpose are.
    subst (λ (joined : List ℕ). Appends c.args.out.now.items c.hand_up.new.out.items (hand_up s kind c.args.key.from c.args.key.to joined options).actions)
    (c.in_ok-octets.ensures octets are) (handed c.args.table.now s kind options stands moment purpose))
    c.hand_up.ensures.actions
