-- Addresses that are heard one after another.
use Rattle.std.proofs.Common.{◌≡◌, ◌∙◌, refl, sym, ap, subst, ℕ, false, Bool, List, [], ◌∷◌, ◌++◌, append_assoc, append-nil, None}
use Rattle.std.specs.Prelude.{◌||◌}
use Rattle.std.specs.List.{list_any}
use Rattle.std.proofs.lemmas.List.Folds.{list_any-append}
use Rattle.clnp_machine.specs.SystemTables.declared.esis_tables.fact.Heard.{Heard}
use Rattle.clnp_machine.specs.SystemTables.declared.esis_tables.fact.Heard.TheVariants.{New, Again, Zero, Full}
use Rattle.clnp_machine.specs.SystemTables.declared.esis_tables.fact.Neighbour.{Neighbour}
use Rattle.clnp_machine.specs.SystemTables.declared.esis_tables.fact.TableKind.{TableKind}
use Rattle.clnp_machine.specs.SystemTables.declared.esis_tables.fact.TableKind.TheVariants.{Es}
use Rattle.clnp_machine.specs.SystemTables.declared.esis_tables.tables.Tables.{Tables}
use Rattle.clnp_machine.specs.EsisTables.Fact as facts
use Rattle.clnp_machine.specs.EsisTables.Fact.{Fact}
use Rattle.clnp_machine.specs.EsisTables.Stands as esis_tables
use Rattle.clnp_machine.specs.EsisTables.Stands.{limits_of}
use Rattle.clnp_machine.specs.ClnpPlan.declared.note.Note.TheVariants as note
use Rattle.clnp_machine.specs.ClnpPlan.declared.output.Output.{Output}
use Rattle.clnp_machine.specs.ClnpPlan.declared.output.Output.TheVariants.{Note}
use Rattle.clnp_machine.specs.Esis.{esis_limits, heard_now, hears, hears_each, tells_new}
use Rattle.clnp_machine.specs.Given.{Appends}
use Rattle.clnp_machine.specs.System as machine
use Rattle.clnp_machine.specs.System.{Effect, SystemState}
use Rattle.clnp_systems.specs.Does.{Hears}
use Rattle.clnp_systems.specs.EsisStands.{Stands}
use Rattle.clnp_systems.specs.EsisState.{EsisState}
use Rattle.clnp_systems.proofs.Effects.{appends_both, appends_none}
use Rattle.clnp_machine.proofs.Given.{appends_note}

-- what was heard so far, and is left to be heard, is the whole
pub record HeardSoFar (moment : ℕ) (entity : EsisState) (before after : List Output) (new : Bool) (neighbour : Neighbour) (hold : ℕ) (left : List (List ℕ))
    (whole : Effect) : Type 0 where
  pub state : SystemState
  pub done : List machine.Output
  pub stands : Stands entity state
  pub moment_is : state.moment ≡ moment
  pub appends : Appends moment None before after done
  pub new_is : new ≡ list_any tells_new done
  pub after_is : whole.after ≡ (hears_each state left neighbour hold).after
  pub outputs_are : whole.outputs ≡ done ++ (hears_each state left neighbour hold).outputs

pub one_heard : (moment : ℕ) (entity later : EsisState) (before mid after : List Output) (new one : Bool) (neighbour : Neighbour) (hold : ℕ) (address : List ℕ)
    (left : List (List ℕ)) (whole : Effect) → HeardSoFar moment entity before mid new neighbour hold (address ∷ left) whole
    → ((s : SystemState) → Stands entity s → s.moment ≡ moment → Hears moment later mid after one (hears s Es address neighbour hold))
    → HeardSoFar moment later before after (new || one) neighbour hold left whole
one_heard moment entity later before mid after new one neighbour hold address left whole h hear =
    let heard : Effect = hears h.state Es address neighbour hold in
    let k : Hears moment later mid after one heard = hear h.state h.stands h.moment_is in
    record {
      state = heard.after;
      done = h.done ++ heard.outputs;
      stands = k.does.stands;
      moment_is = h.moment_is;
      appends = appends_both moment None before mid after h.done heard.outputs h.appends k.does.appends;
      new_is =
          ap (λ (b : Bool). b || one) h.new_is ∙ ap (λ (b : Bool). list_any tells_new h.done || b) k.new_is
          ∙ sym (list_any-append tells_new h.done heard.outputs);
      after_is = h.after_is;
      outputs_are = h.outputs_are ∙ sym (append_assoc h.done heard.outputs (hears_each heard.after left neighbour hold).outputs);
    }

pub none_heard : (moment : ℕ) (entity : EsisState) (list : List Output) (s : SystemState) (addresses : List (List ℕ)) (neighbour : Neighbour) (hold : ℕ)
    → Stands entity s → s.moment ≡ moment
    → HeardSoFar moment entity list list false neighbour hold addresses (hears_each s addresses neighbour hold)
none_heard moment entity list s addresses neighbour hold stands at = record {
  state = s;
  done = [];
  stands = stands;
  moment_is = at;
  appends = appends_none moment None list list refl;
  new_is = refl;
  after_is = refl;
  outputs_are = refl;
}

pub all_heard : (moment : ℕ) (entity : EsisState) (before after : List Output) (new : Bool) (neighbour : Neighbour) (hold : ℕ) (left : List (List ℕ))
    (whole : Effect) → left ≡ [] → HeardSoFar moment entity before after new neighbour hold left whole → Hears moment entity before after new whole
all_heard moment entity before after new neighbour hold left whole none h =
    let k : HeardSoFar moment entity before after new neighbour hold [] whole =
    subst (λ (list : List (List ℕ)). HeardSoFar moment entity before after new neighbour hold list whole) none h in
    let outputs : k.done ≡ whole.outputs = sym (k.outputs_are ∙ append-nil k.done) in
    record {
      does = record {
        stands = subst (λ (s : SystemState). Stands entity s) (sym k.after_is) k.stands;
        appends = subst (λ (list : List machine.Output). Appends moment None before after list) outputs k.appends;
      };
      new_is = k.new_is ∙ ap (list_any tells_new) outputs;
    }

-- to hear changes neither configuration nor moment
pub hears_alike : (s : SystemState) (addresses : List (List ℕ)) (neighbour : Neighbour) (hold : ℕ)
    → (hears_each s addresses neighbour hold).after.configuration ≡ s.configuration
hears_alike s [] neighbour hold = refl
hears_alike s (address ∷ others) neighbour hold = hears_alike (hears s Es address neighbour hold).after others neighbour hold

-- ---- one key

abbrev note_of : TableKind → (key : List ℕ) → Heard → machine.Output
note_of table key heard = machine.Notes (note.Hear table key heard)

alone : (table : TableKind) (key : List ℕ) (heard : Heard) → tells_new (note_of table key heard) ≡ list_any tells_new (note_of table key heard ∷ [])
alone table key New = refl
alone table key Again = refl
alone table key Zero = refl
alone table key (Full entries) = refl

pub not_new : (table : TableKind) (key : List ℕ) (heard : Heard) → (heard ≡ New → ⊥) → false ≡ tells_new (machine.Notes (note.Hear table key heard))
not_new table key New other = absurd (other refl)
not_new table key Again other = refl
not_new table key Zero other = refl
not_new table key (Full entries) other = refl

pub key_heard : (now : ℕ) (inside entity : EsisState) (tables : Tables) (before mid after : List Output) (new : Bool) (table : TableKind) (key : List ℕ)
    (neighbour : Neighbour) (hold : ℕ) (heard : Heard) → inside ≡ entity
    → ((fs : List Fact) → esis_tables.Stands inside.tables fs now []
    → heard ≡ facts.answer (limits_of inside.tables) (facts.hearing now table key neighbour hold) fs)
    → ((fs : List Fact) → esis_tables.Stands inside.tables fs now []
    → esis_tables.Stands tables (facts.after (limits_of inside.tables) (facts.hearing now table key neighbour hold) fs) now [])
    → limits_of tables ≡ limits_of inside.tables → new ≡ tells_new (machine.Notes (note.Hear table key heard)) → mid ≡ before
    → after ≡ mid ++ Note (note.Hear table key heard) ∷ [] → (s : SystemState) → Stands entity s → s.moment ≡ now
    → Hears now (record inside { tables = tables }) before after new (hears s table key neighbour hold)
key_heard now inside entity tables before mid after new table key neighbour hold heard same answered kept limits new_is reserved pushed s stands at =
    let h : Stands inside s = subst (λ (e : EsisState). Stands e s) (sym same) stands in
    let here : esis_tables.Stands inside.tables s.facts now [] = subst (λ (m : ℕ). esis_tables.Stands inside.tables s.facts m []) at h.tables in
    let fact : Fact = heard_now s table key neighbour hold in
    let is : heard ≡ facts.answer (esis_limits s) fact s.facts = rw (at, sym h.limits) (answered s.facts here) in
    record {
      does = record {
        stands = record {
          tables = rw (at, sym h.limits) (kept s.facts here);
          limits = limits ∙ h.limits;
          period = h.period;
          next_hello = h.next_hello;
        };
        appends = appends_note now None before after (note.Hear table key heard) (note.Hear table key (facts.answer (esis_limits s) fact s.facts))
            (rw (sym reserved) pushed) (ap (λ (x : Heard). note.Hear table key x) is);
      };
      new_is = new_is ∙ alone table key heard ∙ ap (λ (x : Heard). list_any tells_new (note_of table key x ∷ [])) is;
    }
