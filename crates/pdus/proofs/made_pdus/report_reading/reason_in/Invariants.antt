use Rattle.std.proofs.Common.{◌≡◌, All, length}
use Rattle.pdus.specs.ClnpOptions.Edits.{value_of}
use Rattle.pdus.specs.ClnpOptions.Grammar.{HasForm}
use Rattle.pdus.specs.ClnpOptions.Parameter.{parameters, reason}
use Rattle.pdus.proofs.made_pdus.report_reading.reason_in.Given as goal

abbrev pub invariant-loop-code : goal.invariant-loop-code
invariant-loop-code l = record {
  value : value_of reason (parameters l.rest) ≡ value_of reason (parameters l.options);
  formed : All HasForm (parameters l.rest);
}

abbrev pub decreases-loop-code : goal.decreases-loop-code
decreases-loop-code l = length l.rest
