use Rattle.clnp_base.proofs.Worths.{FirstWorths}
use Rattle.clnp_base.proofs.digits.all_values.Given as goal

abbrev pub invariant-loop-character : goal.invariant-loop-character
invariant-loop-character l = FirstWorths l.values l.character
