-- A unit that isn't made: the system is as it was, and gives out why.
use Rattle.std.proofs.Common.{◌≡◌, refl, sym, ap, subst, ℕ, List, ◌∷◌, [], ◌++◌, Option, Some, None}
use Rattle.clnp_machine.specs.ClnpPlan.declared.ask.Ask.{Ask}
use Rattle.clnp_machine.specs.ClnpPlan.declared.ask.SendRefusal.{SendRefusal}
use Rattle.clnp_machine.specs.ClnpPlan.declared.ask.SendRefusal.TheVariants as send_refusal
use Rattle.clnp_machine.specs.ClnpPlan.declared.note.Note.{Note}
use Rattle.clnp_machine.specs.ClnpPlan.declared.output.Output.{Output}
use Rattle.clnp_machine.specs.ClnpPlan.declared.output.Output.TheVariants.{Note as Told}
use Rattle.clnp_machine.specs.Local as locally
use Rattle.clnp_machine.specs.Local.{Deed}
use Rattle.clnp_machine.specs.Pdus.declared.pdu_header.kind.Kind.{Kind}
use Rattle.clnp_machine.specs.System.{SystemState}
use Rattle.clnp_systems.specs.Local.{IsWhy, refusal_note}
use Rattle.clnp_systems.proofs.Echoing.{says_why}
use Rattle.clnp_systems.specs.Deeds.{DoesDeed}
use Rattle.clnp_systems.specs.EntityState.{SystemEntityState}
use Rattle.clnp_systems.specs.EntityStands.{IsLeftBy, Stands}
use Rattle.clnp_systems.proofs.Outputs.{appends_note}

-- a refusal that is noted leaves the system as it was
pub leaves_same : (e : SendRefusal) (note : Note) (before after : SystemEntityState) → refusal_note e ≡ Some note → IsLeftBy e before after → after ≡ before
leaves_same send_refusal.NotMine note before after said left = left
leaves_same (send_refusal.TooLong octets) note before after said left = left
leaves_same (send_refusal.IdsBusy used) note before after said left = left
leaves_same (send_refusal.Quiet until) note before after said left = left
leaves_same send_refusal.NoMemory note before after said left = absurd (cc)

module _ (s : SystemState) (kind : Kind) (from to octets : List ℕ) (ask : Ask) (e : SendRefusal) (note : Note)
    (said : refusal_note e ≡ Some note) (why : IsWhy e (locally.refusal s (locally.unit_of s kind from to octets ask))) where
  -- all that is done is that it is noted
  refused : locally.make s kind from to octets ask ≡ locally.tells s note
  refused = ap (λ (r : Option Note). locally.unless_refused r s (locally.unit_of s kind from to octets ask)) (says_why e note _ said why)

  pub refused_does : (new : SystemEntityState) (before after : List Output) → Stands new s → after ≡ before ++ Told note ∷ []
      → DoesDeed s.moment (locally.make s kind from to octets ask) new before after
  refused_does new before after stands written =
      subst (λ (d : Deed). DoesDeed s.moment d new before after) (sym refused)
      record { stands = stands; outputs = appends_note s.moment None before after note note written refl }
