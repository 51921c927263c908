-- A unit goes by the hop towards its destination.
use Rattle.std.proofs.Common.{◌≡◌, ◌∙◌, sym, subst, ℕ, List, Option, None}
use Rattle.std.proofs.lemmas.Result.{on_ok_weaker}
use Rattle.clnp_machine.specs.ClnpPlan.declared.output.Output.{Output}
use Rattle.clnp_machine.specs.Given.{Appends}
use Rattle.clnp_machine.specs.Local as locally
use Rattle.clnp_machine.specs.Local.{Sends, Tells}
use Rattle.clnp_machine.specs.Step.{first_sent, outputs_of, unit_hop}
use Rattle.clnp_machine.specs.declared.way.Hop.{Hop}
use Rattle.clnp_machine.specs.System.{SystemState}
use Rattle.clnp_machine.specs.Unit.{DataUnit}
use Rattle.clnp_systems.specs.Local.{Does}
use Rattle.clnp_systems.specs.declared.action.Action.{Action}
use Rattle.clnp_systems.specs.declared.action.Action.TheVariants.{Send}
use Rattle.clnp_systems.specs.declared.action.Made.{Made}
use Rattle.clnp_systems.specs.Deeds.{IsFresh}
use Rattle.clnp_systems.proofs.entity.SystemEntity.give.Goals as goal

unit_given : (s : SystemState) (before after : List Output) (action : Action) (made : Made) (hop : Option Hop) → action ≡ Send made
    → ((u : DataUnit) → u.destination ≡ made.to → hop ≡ unit_hop s u)
    → ((u : DataUnit) → Does (Send made) (Sends u) → u.first_position ≡ 0 → Appends u.made None before after (first_sent s u hop))
    → (other : locally.Action) → Does action other → IsFresh s.moment other → Appends s.moment None before after (outputs_of s other)
unit_given s before after action made hop is way given (Sends u) does fresh =
    let here = subst (λ (one : Action). Does one (Sends u)) is does in
    let same : hop ≡ unit_hop s u = way u (sym here.1) in
    subst (λ (m : ℕ). Appends m None before after (outputs_of s (Sends u))) fresh.0
    (subst (λ (h : Option Hop). Appends u.made None before after (first_sent s u h)) same (given u here fresh.1))
unit_given s before after action made hop is way given (Tells note) does fresh =
    absurd (subst (λ (one : Action). Does one (Tells note)) is does)

pub returns-in-Send-clause-given : goal.returns-in-Send-clause-given
returns-in-Send-clause-given c =
    on_ok_weaker c.send_unit.result
    (λ given s before other h does fresh.
    unit_given s c.args.out.now.items c.send_unit.new.out.items c.args.action.now c.in-Send.made c.unit_hop-hop.result c.in-Send.is
    (λ u to. c.unit_hop-hop.ensures s before u h to) (λ u does_it first. given s u (c.ports.ensures.ports ∙ h.ports) does_it first) other does fresh)
    c.send_unit.ensures.sent
