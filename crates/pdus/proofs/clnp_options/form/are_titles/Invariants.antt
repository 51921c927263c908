use Rattle.std.proofs.Common.{◌≡◌, length}
use Rattle.pdus.specs.ClnpOptions.Rules as option_rules
use Rattle.pdus.proofs.clnp_options.form.are_titles.Given as goal

abbrev pub invariant-loop-rest : goal.invariant-loop-rest
invariant-loop-rest l = option_rules.are_titles l.rest ≡ option_rules.are_titles l.octets

abbrev pub decreases-loop-rest : goal.decreases-loop-rest
decreases-loop-rest l = length l.rest
