-- One effect after another.
use Rattle.std.proofs.Common.{◌≡◌, refl, sym, subst, ℕ, Bool, true, false, List, [], ◌∷◌, ◌++◌, Option, None}
use Rattle.std.specs.Prelude.{if◌then◌else◌}
use Rattle.std.specs.List.{list_any}
use Rattle.std.proofs.lemmas.List.{append-nil}
use Rattle.clnp_machine.specs.Pdus.declared.esis_pdus.pdu.EsisBody.{EsisBody}
use Rattle.clnp_machine.specs.Pdus.declared.esis_pdus.pdu.EsisBody.TheVariants.{Ish}
use Rattle.clnp_machine.specs.SystemTables.declared.esis_tables.fact.Neighbour.{Neighbour}
use Rattle.clnp_machine.specs.SystemTables.declared.esis_tables.fact.TableKind.TheVariants.{Is}
use Rattle.clnp_machine.specs.ClnpPlan.declared.config.Role.TheVariants.{Host}
use Rattle.clnp_machine.specs.ClnpPlan.declared.output.Output.{Output}
use Rattle.clnp_machine.specs.Esis.{answers_new, esis_heard, follows, hears, tells_new, tells_of_itself}
use Rattle.clnp_machine.specs.Given.{Appends, Gives}
use Rattle.clnp_machine.specs.System as machine
use Rattle.clnp_machine.specs.System.{Effect, SystemState, idles, then_does}
use Rattle.clnp_systems.specs.Does.{Does, Hears}
use Rattle.clnp_systems.specs.EsisStands.{Stands}
use Rattle.clnp_systems.specs.EsisState.{EsisState}
pub use Rattle.clnp_machine.proofs.Answering.{answers_itself, told_after}
use Rattle.clnp_machine.proofs.Given.{appends_one}
pub use Rattle.clnp_machine.proofs.Given.{appends_both, appends_none}

pub appends_pushed : (moment : ℕ) (before mid after : List Output) (output : Output) (other : machine.Output) → mid ≡ before → after ≡ mid ++ output ∷ []
    → Gives moment None output other → Appends moment None before after (other ∷ [])
appends_pushed moment before mid after output other reserved pushed gives = appends_one moment None before after output other (rw (sym reserved) pushed) gives

pub does_then : (moment : ℕ) (middle entity : EsisState) (before mid after : List Output) (effect : Effect) (next : SystemState → Effect)
    → Does moment middle before mid effect → Does moment entity mid after (next effect.after) → Does moment entity before after (then_does effect next)
does_then moment middle entity before mid after effect next h k =
    record { stands = k.stands; appends = appends_both moment None before mid after effect.outputs (next effect.after).outputs h.appends k.appends }

-- ---- to tell of itself changes nothing

pub answered_after : (new : Bool) (s : SystemState) (neighbour : Neighbour) → (if new then tells_of_itself s neighbour.port neighbour.snpa else idles s).after ≡ s
answered_after true s neighbour = told_after s neighbour.port neighbour.snpa
answered_after false s neighbour = refl

-- ---- answers

pub does_answer : (moment : ℕ) (entity : EsisState) (before mid after : List Output) (new : Bool) (heard : Effect) (neighbour : Neighbour)
    → Hears moment entity before mid new heard
    → Appends moment None mid after (if new then tells_of_itself heard.after neighbour.port neighbour.snpa else idles heard.after).outputs
    → Does moment entity before after (answers_new heard neighbour)
does_answer moment entity before mid after new heard neighbour h told =
    let answer : Bool → Effect = λ b. if b then tells_of_itself heard.after neighbour.port neighbour.snpa else idles heard.after in
    let same : (answer (list_any tells_new heard.outputs)).after ≡ heard.after = answered_after (list_any tells_new heard.outputs) heard.after neighbour in
    record {
      stands = subst (λ (s : SystemState). Stands entity s) (sym same) h.does.stands;
      appends = appends_both moment None before mid after heard.outputs (answer (list_any tells_new heard.outputs)).outputs h.does.appends
          (subst (λ (b : Bool). Appends moment None mid after (answer b).outputs) h.new_is told);
    }

-- a host follows the wish of an intermediate system once it has answered
pub host_follows : (moment : ℕ) (later : EsisState) (before after : List Output) (s : SystemState) (title : List ℕ) (neighbour : Neighbour) (hold : ℕ) (body : EsisBody)
    (timer : Option ℕ) → body ≡ Ish title → Appends moment None before after (answers_new (hears s Is title neighbour hold) neighbour).outputs
    → Stands later (follows (hears s Is title neighbour hold).after timer) → Does moment later before after (esis_heard Host s neighbour hold body timer)
host_follows moment later before after s title neighbour hold body timer is given followed =
    let answered : Effect = answers_new (hears s Is title neighbour hold) neighbour in
    let same : answered.after ≡ (hears s Is title neighbour hold).after = answers_itself (hears s Is title neighbour hold) neighbour in
    let does : Does moment later before after (then_does answered (λ t. idles (follows t timer))) =
    record {
      stands = subst (λ (t : SystemState). Stands later (follows t timer)) (sym same) followed;
      appends = subst (λ (list : List machine.Output). Appends moment None before after list) (sym (append-nil answered.outputs)) given;
    } in
    subst (λ (b : EsisBody). Does moment later before after (esis_heard Host s neighbour hold b timer)) (sym is) does
