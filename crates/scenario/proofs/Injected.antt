-- What holds of each event of a frame from outside holds of the one that a line gives.
use Rattle.std.proofs.Common.{ℕ, List, nat_le, length, IfOk}
use Rattle.clnp_plan.specs.Pdus.declared.nsap.target.Target.{Target}
use Rattle.scenario.specs.Words.{declared_word, address_word, four_words, frame_word, target_word}
use Rattle.scenario.specs.Events.{inject_line}
use Rattle.clnp_plan.specs.declared.scenario_plan.event.Event.{Event}
use Rattle.clnp_plan.specs.declared.scenario_plan.event.Event.TheVariants.{Inject}
use Rattle.scenario.proofs.Behind.{behind_result, behind_found, behind_wanted}

pub inject_such : (subnets words : List (List ℕ)) (P : Event → Type 0) → ((subnet : ℕ) (from : List ℕ) (to : Target) (octets : List ℕ) → P (Inject subnet from to octets))
    → IfOk (inject_line subnets words) P
unfolding inject_line
inject_such subnets words P h =
    behind_found (four_words words) _ _ P (λ w _.
    behind_result (declared_word subnets w.0) _ P (λ subnet _.
    behind_result (address_word w.1) _ P (λ from _.
    behind_result (target_word w.2) _ P (λ to _.
    behind_result (frame_word w.3) _ P (λ octets _.
    behind_wanted (nat_le (length octets) 70000) _ _ P (λ _. h subnet from to octets))))))
