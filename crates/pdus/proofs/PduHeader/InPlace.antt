-- Octets that were changed in place from an index on.
use Rattle.std.proofs.Common.{◌≡◌, ◌∙◌, sym, ap, subst, Bool, ℕ, List, ◌++◌, length, take, drop}
use Rattle.std.proofs.lemmas.List.{take-append-drop}
use Rattle.pdus.specs.ClnpOptions.Parameter.{Parameter, parameters, spelled}
use Rattle.pdus.specs.ClnpOptions.Rules.{Accepts, IsWellFormed}
use Rattle.pdus.specs.PduHeader.Headers.{IsEdited}

-- the options behind a header's other octets were edited
pub options_edited : (start : ℕ) (old new was is : List ℕ) (change : List Parameter → List Parameter)
    → take start new ≡ take start old
    → length new ≡ length old
    → was ≡ drop start old
    → is ≡ drop start new
    → is ≡ spelled (change (parameters was))
    → IsWellFormed is
    → ((is_report : Bool) → Accepts is_report was → Accepts is_report is)
    → IsEdited start change old new
options_edited start old new was is change front len before behind octets formed accepted =
    let spells : is ≡ spelled (change (parameters (drop start old))) = octets ∙ ap (λ t. spelled (change (parameters t))) before in
    let P : List ℕ → Type 0 = IsWellFormed in
    record {
      octets =
          sym (take-append-drop start new)
          ∙ ap (λ t. t ++ drop start new) front
          ∙ ap (λ t. take start old ++ t) (sym behind ∙ spells);
      len = len;
      well_formed = subst P spells formed;
      accepted = λ is_report accepts. let Q : List ℕ → Type 0 = Accepts is_report in
          subst Q spells (accepted is_report (subst Q (sym before) accepts));
    }
