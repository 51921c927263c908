-- Redirects that aren't heard.
use Rattle.std.proofs.Common.{arith, ◌≡◌, ◌≤◌, ◌∙◌, sym, ap, subst, ℕ, Bool, true, false, List, [], ◌∷◌, Result, None}
use Rattle.std.specs.Prelude.{if◌then◌else◌, OnOk}
use Rattle.clnp_machine.specs.SystemTables.declared.esis_tables.fact.Gone.{Gone}
use Rattle.clnp_machine.specs.SystemTables.declared.esis_tables.fact.Neighbour.{Neighbour}
use Rattle.clnp_machine.specs.SystemTables.declared.esis_tables.fact.TableKind.TheVariants.{Rd}
use Rattle.clnp_machine.specs.EsisTables.Fact.{Fact}
use Rattle.clnp_machine.specs.EsisTables.NextHop.{is_router}
use Rattle.clnp_machine.specs.EsisTables.Stands as esis_tables
use Rattle.clnp_machine.specs.ClnpPlan.declared.config.Role.TheVariants.{Host}
use Rattle.clnp_machine.specs.ClnpPlan.declared.note.Note.TheVariants as note
use Rattle.clnp_machine.specs.ClnpPlan.declared.output.Output.{Output}
use Rattle.clnp_machine.specs.Esis.{hears, redirect_heard}
use Rattle.clnp_machine.specs.Given.{Appends}
use Rattle.clnp_machine.specs.System as machine
use Rattle.clnp_machine.specs.System.{Effect, SystemState, gives}
use Rattle.clnp_systems.specs.Does.{Does}
use Rattle.clnp_systems.specs.EsisStands.{Stands}
use Rattle.clnp_systems.specs.EsisState.{EsisState}
use Rattle.clnp_systems.proofs.EsisTicking.{on_ok}

-- one from a place where no router is known
ignored : (moment : ℕ) (entity : EsisState) (before after : List Output) (s : SystemState) (neighbour : Neighbour) (hold : ℕ) (to via : List ℕ)
    → Stands entity s → false ≡ is_router s.moment neighbour.snpa s.facts → Appends moment None before after (machine.Notes (note.Ignored true) ∷ [])
    → Does moment entity before after (redirect_heard Host s neighbour hold to via)
ignored moment entity before after s neighbour hold to via stands unknown noted =
    let other : Effect = hears s Rd to (record { port = neighbour.port; snpa = via }) hold in
    let one : Effect = gives s (machine.Notes (note.Ignored true) ∷ []) in
    let does : Does moment entity before after one = record { stands = stands; appends = noted } in
    subst (λ (known : Bool). Does moment entity before after (if known then other else one)) unknown does

-- what the tables say of the place is so for the facts of each state that the entity stands for
pub ignores_redirect : {U E : Type 0} (result : Result U E) (view entity : EsisState) (moment : ℕ) (before after : List Output) (neighbour : Neighbour) (hold : ℕ)
    (to via : List ℕ) → view ≡ entity
    → ((facts : List Fact) (since : ℕ) (left : List Gone) → esis_tables.Stands view.tables facts since left → since ≤ moment
    → false ≡ is_router moment neighbour.snpa facts)
    → OnOk result ((at : ℕ) → Appends at None before after (machine.Notes (note.Ignored true) ∷ []))
    → OnOk result ((s : SystemState) → Stands entity s → s.moment ≡ moment → Does moment entity before after (redirect_heard Host s neighbour hold to via))
ignores_redirect result view entity moment before after neighbour hold to via same unknown noted =
    on_ok result
    (λ given s stands at.
    let tables : esis_tables.Stands view.tables s.facts s.moment [] = subst (λ (e : EsisState). esis_tables.Stands e.tables s.facts s.moment []) (sym same) stands.tables in
    let here : esis_tables.Stands view.tables s.facts moment [] = subst (λ (m : ℕ). esis_tables.Stands view.tables s.facts m []) at tables in
    let from : false ≡ is_router s.moment neighbour.snpa s.facts =
    unknown s.facts moment [] here (omega arith) ∙ ap (λ (m : ℕ). is_router m neighbour.snpa s.facts) (sym at) in
    ignored moment entity before after s neighbour hold to via stands from (given moment))
    noted
