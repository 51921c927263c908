-- The outputs of a step of a system go out as those of the model.
use Rattle.std.proofs.Common.{◌≡◌, ℕ, List, [], ◌∷◌, ◌++◌, inl, inr, sym, ap, ◌∙◌, subst, Some}
use Rattle.clnp_machine.specs.ClnpPlan.declared.config.Role.{Role}
use Rattle.clnp_machine.specs.ClnpPlan.declared.output.Output.{Output}
use Rattle.clnp_machine.specs.ClnpPlan.declared.output.Output.TheVariants.{Transmit, Note}
use Rattle.clnp_machine.specs.Content.{Content}
use Rattle.clnp_machine.specs.Given.{GiveAll, Gives}
use Rattle.clnp_machine.specs.System as machine
use Rattle.clnp_systems.specs.Steps.{AppendsOf, input_with}
use Rattle.clnp_systems.specs.declared.input.Input.{Input}
use Rattle.clnp_systems.proofs.Given.{gives_any}
use Rattle.clnp_program.specs.LiveNode.Outputs.{PutAllOut, PutsOut}

puts_for : (moment : ℕ) (content : Content) (output : Output) (other : machine.Output) → Gives moment (Some content) output other → PutsOut output other
puts_for moment content (Note note) (machine.Notes told) h = h
puts_for moment content (Note note) (machine.Transmits port target packet) h = absurd h
puts_for moment content (Note note) (machine.SendsEsis port target value) h = absurd h
puts_for moment content (Transmit sending) (machine.Notes told) h = absurd h
puts_for moment content (Transmit sending) (machine.Transmits port target packet) (inl first) =
    record { port_is = first.port_is; target_is = first.target_is; octets_are = first.octets }
puts_for moment content (Transmit sending) (machine.Transmits port target packet) (inr on) =
    record { port_is = on.port_is; target_is = on.target_is; octets_are = on.octets }
puts_for moment content (Transmit sending) (machine.SendsEsis port target value) h =
    record { port_is = h.port_is; target_is = h.target_is; octets_are = h.octets }

put_all_for : (moment : ℕ) (content : Content) (outputs : List Output) (others : List machine.Output) → GiveAll moment (Some content) outputs others → PutAllOut outputs others
put_all_for moment content [] [] h = tt
put_all_for moment content [] (other ∷ others) h = absurd h
put_all_for moment content (output ∷ outputs) [] h = absurd h
put_all_for moment content (output ∷ outputs) (other ∷ others) h = (puts_for moment content output other h.0, put_all_for moment content outputs others h.1)

-- what was given out by a step goes out
pub gave_out : (input : Input) (role : Role) (content : Content) (moment : ℕ) (before after : List Output) (others : List machine.Output) → before ≡ []
    → AppendsOf (input_with content input) role moment before after others → PutAllOut after others
gave_out input role content moment before after others none h =
    let gave = gives_any input role content moment before after others h in
    let whole : after ≡ gave.outputs = gave.appended ∙ ap (λ (front : List Output). front ++ gave.outputs) none in
    subst (λ (os : List Output). PutAllOut os others) (sym whole) (put_all_for moment content gave.outputs others gave.give_all)
