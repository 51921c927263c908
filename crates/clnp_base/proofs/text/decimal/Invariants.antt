use Rattle.std.proofs.Common.{◌≡◌, ◌<◌, ◌^◌, drop}
use Rattle.clnp_base.proofs.Decimals.{decimal_after}
use Rattle.clnp_base.proofs.text.decimal.Given as goal

abbrev pub invariant-loop-octet : goal.invariant-loop-octet
invariant-loop-octet l = (l.value < 2 ^ 64) × (decimal_after l.value (drop l.octet-index l.word) ≡ decimal_after 0 l.word)
