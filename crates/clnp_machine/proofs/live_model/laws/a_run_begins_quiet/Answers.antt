use Rattle.std.proofs.Common.{ap, refl, ◌+◌, List, ℕ, ◌<◌, ◌≤◌, ◌≡◌, true, false, arith}
use Rattle.std.specs.Prelude.{nat_lt}
use Rattle.std.proofs.lemmas.Bool.Decides.{nat_tests}
use Rattle.clnp_plan.specs.Configuration.{SystemConfiguration}
use Rattle.clnp_machine.specs.LiveModel.Course.{run_of}
use Rattle.clnp_machine.proofs.live_model.laws.a_run_begins_quiet.Goals as goal

is_before : (a b : ℕ) → a < b → nat_lt a b ≡ true
is_before a b lt = grind (arith, nat_tests)

is_behind : (a b : ℕ) → b ≤ a → nat_lt a b ≡ false
is_behind a b le = grind (arith, nat_tests)

pub returns-clause-run : goal.returns-clause-run
returns-clause-run c plan system attached transcript e = ap (λ (systems : List SystemConfiguration). run_of plan systems attached transcript) e

pub returns-clause-quiet : goal.returns-clause-quiet
returns-clause-quiet c limits system start now attached lt = rw (is_before now (start + limits.reuse) lt) refl

pub returns-clause-rested : goal.returns-clause-rested
returns-clause-rested c limits system start now attached le = rw (is_behind now (start + limits.reuse) le) refl
