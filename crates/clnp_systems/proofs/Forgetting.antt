-- Keys that are forgotten one after another.
use Rattle.std.proofs.Common.{◌≡◌, ◌∙◌, refl, sym, ap, subst, ℕ, ◌+◌, List, [], ◌∷◌, ◌++◌, map, length, Option, Some, None, append_assoc, length-append, arith}
use Rattle.std.proofs.lemmas.List.{append-nil, map-append}
use Rattle.std.proofs.lemmas.Slice.Zip.{AllZip-long}
use Rattle.clnp_machine.specs.SystemTables.declared.esis_tables.fact.Gone.{Gone}
use Rattle.clnp_machine.specs.SystemTables.declared.esis_tables.tables.Tables.{Tables}
use Rattle.clnp_machine.specs.EsisTables.Fact.{Fact}
use Rattle.clnp_machine.specs.EsisTables.Stands as esis_tables
use Rattle.clnp_machine.specs.EsisTables.Stands.{FlushesFirst}
use Rattle.clnp_machine.specs.ClnpPlan.declared.output.Output.{Output}
use Rattle.clnp_machine.specs.Esis.{gone_note}
use Rattle.clnp_machine.specs.Given.{Appends, Gives}
use Rattle.clnp_machine.specs.System as machine
use Rattle.clnp_systems.proofs.Effects.{appends_none, appends_both}

-- ---- how many are noted

pub appended_length : (moment : ℕ) (before after : List Output) (others : List machine.Output) → Appends moment None before after others
    → length after ≡ length before + length others
appended_length moment before after others h =
    omega (arith, AllZip-long (Gives moment None) h.outputs others h.give_all, length-append before h.outputs, ap length h.appended)

-- ---- keys

-- what was forgotten so far, and is left to be forgotten, is all that is gone
pub record ForgotSoFar (moment now : ℕ) (tables : Tables) (before after : List Output) (facts : List Fact) (all : List Gone) : Type 0 where
  pub done : List Gone
  pub left : List Gone
  pub stands : esis_tables.Stands tables facts now left
  pub are : all ≡ done ++ left
  pub appends : Appends moment None before after (map gone_note done)

pub none_forgotten : (moment now : ℕ) (tables : Tables) (list : List Output) (facts : List Fact) (all : List Gone) → esis_tables.Stands tables facts now all
    → ForgotSoFar moment now tables list list facts all
none_forgotten moment now tables list facts all stands =
    record { done = []; left = all; stands = stands; are = refl; appends = appends_none moment None list list refl }

pub one_forgotten : (moment now : ℕ) (tables later : Tables) (before mid after : List Output) (key : Gone) (answer : Option Gone) (facts : List Fact) (all : List Gone)
    → ForgotSoFar moment now tables before mid facts all → answer ≡ Some key
    → ((list : List Fact) (left : List Gone) → esis_tables.Stands tables list now left → FlushesFirst answer later list now left)
    → Appends moment None mid after (gone_note key ∷ []) → ForgotSoFar moment now later before after facts all
one_forgotten moment now tables later before mid after key answer facts all h is flushes noted =
    let first : FlushesFirst (Some key) later facts now h.left =
    subst (λ (a : Option Gone). FlushesFirst a later facts now h.left) is (flushes facts h.left h.stands) in
    record {
      done = h.done ++ key ∷ [];
      left = first.0;
      stands = first.2;
      are = h.are ∙ ap (λ (list : List Gone). h.done ++ list) first.1 ∙ sym (append_assoc h.done (key ∷ []) first.0);
      appends = subst (λ (list : List machine.Output). Appends moment None before after list) (sym (map-append gone_note h.done (key ∷ [])))
          (appends_both moment None before mid after (map gone_note h.done) (gone_note key ∷ []) h.appends noted);
    }

-- nothing is left
pub record ForgotAll (moment now : ℕ) (tables : Tables) (before after : List Output) (facts : List Fact) (all : List Gone) : Type 0 where
  pub stands : esis_tables.Stands tables facts now []
  pub appends : Appends moment None before after (map gone_note all)

pub all_forgotten : (moment now : ℕ) (tables later : Tables) (before after : List Output) (answer : Option Gone) (facts : List Fact) (all : List Gone)
    → ForgotSoFar moment now tables before after facts all → answer ≡ None
    → ((list : List Fact) (left : List Gone) → esis_tables.Stands tables list now left → FlushesFirst answer later list now left)
    → ForgotAll moment now later before after facts all
all_forgotten moment now tables later before after answer facts all h is flushes =
    let last : FlushesFirst None later facts now h.left =
    subst (λ (a : Option Gone). FlushesFirst a later facts now h.left) is (flushes facts h.left h.stands) in
    let done : all ≡ h.done = h.are ∙ ap (λ (list : List Gone). h.done ++ list) last.0 ∙ append-nil h.done in
    record {
      stands = last.1;
      appends = subst (λ (list : List machine.Output). Appends moment None before after list) (ap (map gone_note) (sym done)) h.appends;
    }
