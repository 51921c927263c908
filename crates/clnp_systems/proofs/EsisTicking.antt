-- What is forgotten, and then said.
use Rattle.std.proofs.Common.{◌≡◌, ◌∙◌, sym, subst, ℕ, List, [], map, Result, Ok, Err, None}
use Rattle.std.specs.Prelude.{OnOk}
use Rattle.clnp_machine.specs.EsisTables.Gone.{gone}
use Rattle.clnp_machine.specs.EsisTables.Stands as esis_tables
use Rattle.clnp_machine.specs.EsisTables.Stands.{limits_of}
use Rattle.clnp_machine.specs.ClnpPlan.declared.output.Output.{Output}
use Rattle.clnp_machine.specs.Esis.{forgets, gone_note, says_hello}
use Rattle.clnp_machine.specs.Given.{Appends}
use Rattle.clnp_machine.specs.System.{SystemState, then_does}
use Rattle.clnp_systems.specs.Does.{Does}
use Rattle.clnp_systems.specs.EsisStands.{Stands, StandsSince}
use Rattle.clnp_systems.specs.EsisState.{EsisState}
use Rattle.clnp_systems.proofs.Effects.{does_then}

-- the tables alone are others
pub record HasForgotten (old later : EsisState) : Type 0 where
  pub limits : limits_of later.tables ≡ limits_of old.tables
  pub period : later.period ≡ old.period
  pub next_hello : later.next_hello ≡ old.next_hello

pub does_tick : (now since : ℕ) (old later last : EsisState) (before mid after : List Output) (s : SystemState) → StandsSince since old s → s.moment ≡ now
    → HasForgotten old later → esis_tables.Stands later.tables s.facts now [] → Appends now None before mid (map gone_note (gone since now s.facts))
    → (Stands later s → Does now last mid after (says_hello s)) → Does now last before after (then_does (forgets since s) says_hello)
does_tick now since old later last before mid after s h at same stands noted says =
    let there : Stands later s =
    record {
      tables = subst (λ (moment : ℕ). esis_tables.Stands later.tables s.facts moment []) (sym at) stands;
      limits = same.limits ∙ h.limits;
      period = same.period ∙ h.period;
      next_hello = same.next_hello ∙ h.next_hello;
    } in
    let forgot : Does now later before mid (forgets since s) =
    record { stands = there; appends = subst (λ (moment : ℕ). Appends now None before mid (map gone_note (gone since moment s.facts))) (sym at) noted } in
    does_then now later last before mid after (forgets since s) says_hello forgot (says there)

pub on_ok : {U E A B : Type 0} (result : Result U E) → (A → B) → OnOk result A → OnOk result B
on_ok (Ok x) f h = f h
on_ok (Err e) f h = h
