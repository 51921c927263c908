use Rattle.std.proofs.Common.{ℕ, ◌<◌, ◌≤◌, List, length, get_or}
use Rattle.clnp_systems.proofs.esis.hellos.fits.Given as goal

abbrev pub invariant-loop-address : goal.invariant-loop-address
invariant-loop-address l = (k : ℕ) (d : List ℕ) → k < l.address-index → length (get_or l.addresses k d) ≤ 20
