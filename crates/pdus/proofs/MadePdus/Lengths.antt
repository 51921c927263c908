-- How long the reason for discard is among options.
use Rattle.std.proofs.Common.{◌≡◌, ℕ, List, [], ◌∷◌, length, ap, ◌∙◌, arith}
use Rattle.pdus.specs.ClnpOptions.Parameter.{Parameter, spelled}
use Rattle.pdus.specs.MadePdus.Report.{reason_option}

alone_has_four : (code place : ℕ) → length (spelled (reason_option code place ∷ [])) ≡ 4
unfolding spelled
alone_has_four code place = omega arith

pub four : (options : List Parameter) (code place : ℕ) → options ≡ reason_option code place ∷ [] → length (spelled options) ≡ 4
four options code place is = ap (λ os. length (spelled os)) is ∙ alone_has_four code place
