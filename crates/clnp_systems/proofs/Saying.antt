-- A hello on each port.
use Rattle.std.proofs.Common.{◌≡◌, sym, subst, ℕ, ◌+◌, List, [], ◌∷◌, length, map, arith, None}
use Rattle.std.specs.List.{range_with_len}
use Rattle.std.proofs.lemmas.List.FromFn.{map-range_with_len_more}
use Rattle.clnp_machine.specs.Pdus.declared.nsap.target.Target.{Target}
use Rattle.clnp_machine.specs.ClnpPlan.declared.output.Output.{Output}
use Rattle.clnp_machine.specs.Esis.{hearers, hello_everywhere, own_hello}
use Rattle.clnp_machine.specs.Given.{Appends}
use Rattle.clnp_machine.specs.System as machine
use Rattle.clnp_machine.specs.System.{SendsEsis, SystemState}
use Rattle.clnp_systems.proofs.Effects.{appends_both}

abbrev says : SystemState → ℕ → machine.Output
says s port = SendsEsis port (hearers s.configuration.role) (own_hello s)

pub one_said : (moment : ℕ) (before mid after : List Output) (s : SystemState) (port : ℕ) (to : Target)
    → Appends moment None before mid (map (λ port. SendsEsis port (hearers s.configuration.role) (own_hello s)) (range_with_len 0 port))
    → Appends moment None mid after (SendsEsis port to (own_hello s) ∷ []) → to ≡ hearers s.configuration.role
    → Appends moment None before after (map (λ port. SendsEsis port (hearers s.configuration.role) (own_hello s)) (range_with_len 0 (port + 1)))
one_said moment before mid after s port to h k is =
    let said : Appends moment None mid after (says s port ∷ []) = subst (λ (t : Target). Appends moment None mid after (SendsEsis port t (own_hello s) ∷ [])) is k in
    subst (λ (list : List machine.Output). Appends moment None before after list) (sym (map-range_with_len_more (says s) 0 port port (omega arith)))
    (appends_both moment None before mid after (map (says s) (range_with_len 0 port)) (says s port ∷ []) h said)

pub all_said : (moment : ℕ) (before after : List Output) (s : SystemState) (port : ℕ) → port ≡ length s.attached.ports
    → Appends moment None before after (map (λ port. SendsEsis port (hearers s.configuration.role) (own_hello s)) (range_with_len 0 port))
    → Appends moment None before after (hello_everywhere s)
all_said moment before after s port all h = subst (λ (n : ℕ). Appends moment None before after (map (says s) (range_with_len 0 n))) all h
