-- The outputs of a system of the code, as a live node puts them out, and those of the model.
use Rattle.std.specs.Prelude.{◌≡◌, ℕ, List, [], ◌∷◌}
use Rattle.clnp_machine.specs.ClnpPlan.declared.output.Output.{Output}
use Rattle.clnp_machine.specs.ClnpPlan.declared.output.Output.TheVariants.{Transmit, Note}
use Rattle.clnp_machine.specs.ClnpPlan.declared.output.Sending as plan_sending
use Rattle.clnp_machine.specs.EsisPdus.Spelling.{spelling}
use Rattle.clnp_machine.specs.Pdus.declared.nsap.target.Target.{Target}
use Rattle.clnp_machine.specs.System as machine
use Rattle.clnp_machine.specs.Unit.{wire}

-- a frame goes out on a port with these octets
pub record GoesOut (sending : plan_sending.Sending) (port : ℕ) (target : Target) (octets : List ℕ) : Type 0 where
  pub port_is : sending.port ≡ port
  pub target_is : sending.to ≡ target
  pub octets_are : sending.frame ≡ octets

-- an output of the code is one of the model
abbrev pub PutsOut : Output → machine.Output → Type 0
PutsOut (Note note) (machine.Notes told) = note ≡ told
PutsOut (Transmit sending) (machine.Transmits port target packet) = GoesOut sending port target (wire packet)
PutsOut (Transmit sending) (machine.SendsEsis port target value) = GoesOut sending port target (spelling value)
PutsOut (Note note) (machine.Transmits port target packet) = ⊥
PutsOut (Note note) (machine.SendsEsis port target value) = ⊥
PutsOut (Transmit sending) (machine.Notes told) = ⊥

abbrev pub PutAllOut : List Output → List machine.Output → Type 0
PutAllOut [] [] = Unit {0}
PutAllOut (output ∷ outputs) (other ∷ others) = PutsOut output other × PutAllOut outputs others
PutAllOut [] (other ∷ others) = ⊥
PutAllOut (output ∷ outputs) [] = ⊥
