use Rattle.std.proofs.Common.{◌≡◌, ◌+◌, length}
use Rattle.pdus.specs.ClnpOptions.Parameter.{parameters}
use Rattle.pdus.specs.ClnpOptions.Rules as option_rules
use Rattle.pdus.specs.ClnpOptions.Tests.{test_of}
use Rattle.pdus.proofs.clnp_options.judge.place_of.Given as goal

abbrev pub invariant-loop-code : goal.invariant-loop-code
invariant-loop-code l = record {
  at : l.place + length l.rest ≡ l.first + length l.part;
  same : option_rules.place_of (test_of l.test) l.place (parameters l.rest) ≡ option_rules.place_of (test_of l.test) l.first (parameters l.part);
}

abbrev pub decreases-loop-code : goal.decreases-loop-code
decreases-loop-code l = length l.rest
