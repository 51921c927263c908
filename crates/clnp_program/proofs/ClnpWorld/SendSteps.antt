-- What is asked of a host alone.
use Rattle.std.proofs.Common.{◌≡◌, ◌≤◌, ◌∙◌, ℕ, Option, Some, length, sym, ap, subst, arith}
use Rattle.std.specs.Prelude.{slice_get}
use Rattle.std.proofs.lemmas.Option.{slice_get_past}
use Rattle.clnp_machine.specs.ClnpPlan.Configuration.{SystemConfiguration}
use Rattle.clnp_machine.specs.ClnpPlan.declared.config.Role.{Role}
use Rattle.clnp_machine.specs.ClnpPlan.declared.config.Role.TheVariants.{Host, Router}
use Rattle.clnp_machine.specs.System.{SystemState, Input}
use Rattle.clnp_systems.specs.declared.system.System.{System}
use Rattle.clnp_machine.specs.ClnpNetwork.LabelledNetwork as network
use Rattle.clnp_systems.specs.Stands.{configuration_of}
use Rattle.clnp_program.specs.ClnpWorld.Lines.{Taken}
use Rattle.clnp_program.specs.ClnpWorld.Parts.{Follows, Holds}
use Rattle.clnp_program.specs.declared.clnp_world.network.Network.{Network}
use Rattle.clnp_program.proofs.ClnpWorld.EachSteps.{each_length}
use Rattle.clnp_program.proofs.ClnpWorld.GiveSteps.{follows_nothing}
use Rattle.clnp_program.proofs.ClnpWorld.TakeSteps.{is_there}

asked_of : (code : Network) (place : ℕ) (asked : Input) (node : System) (role : Role) → slice_get code.systems.items place ≡ Some node
    → (configuration_of node).role ≡ role → (model : network.LabelledNetwork) → Holds code model
    → network.asks model place asked ≡ network.asks_role role model place asked
asked_of code place asked node role here is model h =
    let there = is_there code model place node h.shows here in
    ap (λ (s : Option SystemState). network.asks_system model place asked s) there.at
    ∙ ap (λ (c : SystemConfiguration). network.asks_role c.role model place asked) (sym there.stands.parts.local.configuration)
    ∙ ap (λ (r : Role). network.asks_role r model place asked) is

-- what is asked of a host comes to it
pub asks_host : (old code : Network) (before after : Taken) (place : ℕ) (asked : Input) (node : System)
    → slice_get old.systems.items place ≡ Some node → (configuration_of node).role ≡ Host
    → ((model : network.LabelledNetwork) → Holds old model → Follows code before after (network.comes model place asked))
    → (model : network.LabelledNetwork) → Holds old model → Follows code before after (network.asks model place asked)
asks_host old code before after place asked node here role comes model h =
    subst (λ (s : network.Step). Follows code before after s) (sym (asked_of old place asked node Host here role model h)) (comes model h)

-- nothing is asked of a router
pub asks_router : (code : Network) (lines : Taken) (place : ℕ) (asked : Input) (node : System) → slice_get code.systems.items place ≡ Some node
    → (configuration_of node).role ≡ Router → (model : network.LabelledNetwork) → Holds code model → Follows code lines lines (network.asks model place asked)
asks_router code lines place asked node here role model h =
    subst (λ (s : network.Step). Follows code lines lines s) (sym (asked_of code place asked node Router here role model h))
    (follows_nothing code lines model h)

-- there is no system at the place
pub asks_nobody : (code : Network) (lines : Taken) (place : ℕ) (asked : Input) → length code.systems.items ≤ place
    → (model : network.LabelledNetwork) → Holds code model → Follows code lines lines (network.asks model place asked)
asks_nobody code lines place asked past model h =
    let same = each_length code.systems.items model.systems h.shows.systems in
    let none = slice_get_past model.systems place (omega arith) in
    subst (λ (s : Option SystemState). Follows code lines lines (network.asks_system model place asked s)) (sym none)
    (follows_nothing code lines model h)
