use Rattle.clnp_base.proofs.Hexadecimal.{Telling}
use Rattle.clnp_base.proofs.digits.values_in.Given as goal

abbrev pub invariant-loop-character : goal.invariant-loop-character
invariant-loop-character l = Telling l.values l.text l.character-index
