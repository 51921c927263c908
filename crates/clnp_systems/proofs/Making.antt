-- A unit that is made.
use Rattle.std.proofs.Common.{◌≡◌, ℕ, Option, None, List, [], ◌∷◌, sym, ap, subst}
use Rattle.clnp_machine.specs.ClnpPlan.declared.note.Note.{Note}
use Rattle.clnp_machine.specs.Unit.{DataUnit}
use Rattle.clnp_machine.specs.System.{SystemState}
use Rattle.clnp_machine.specs.Local.{Deed, Sends, Tells, makes, sent_note, unless_refused, with_made, with_use}
use Rattle.clnp_systems.specs.Pool as pool
use Rattle.clnp_systems.specs.declared.action.Action.{Action}
use Rattle.clnp_systems.specs.declared.pending.Request.{Request}
use Rattle.clnp_systems.specs.LocalState.{EntityState, PoolState}
use Rattle.clnp_systems.specs.Local.{Appends, AreRequests, Stands}

-- a unit that isn't refused is made
made : (refused : Option Note) (s : SystemState) (u : DataUnit) → refused ≡ None → makes s u ≡ unless_refused refused s u
made refused s u none = sym (ap (λ (r : Option Note). unless_refused r s u) none)

-- an entity with one more unit stands for the system that made it
pub stands_making : (local : EntityState) (used : PoolState) (units : ℕ) (noted : List Request) (s : SystemState) (u : DataUnit) (refused : Option Note)
    → refused ≡ None → Stands local s → pool.Stands used (with_use s u.identifier) → units ≡ u.number → AreRequests noted (with_made u.kind s.pending u)
    → Stands (record local { identifiers = used; count = units; pending = noted }) (unless_refused refused s u).after
stands_making local used units noted s u refused none stands uses number pending =
    subst (λ (d : Deed). Stands (record local { identifiers = used; count = units; pending = noted }) d.after) (made refused s u none)
    record {
      configuration = stands.configuration;
      limits = stands.limits;
      count = number;
      identifiers = uses;
      buffers = stands.buffers;
      table = stands.table;
      shown = stands.shown;
      packets = stands.packets;
      pending = pending;
    }

-- its note and then itself are appended
pub appends_making : (before after : List Action) (s : SystemState) (u : DataUnit) (refused : Option Note) → refused ≡ None
    → Appends before after (Tells (sent_note u) ∷ Sends u ∷ []) → Appends before after (unless_refused refused s u).actions
appends_making before after s u refused none appends = subst (λ (d : Deed). Appends before after d.actions) (made refused s u none) appends
