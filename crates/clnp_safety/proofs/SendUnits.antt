-- What stays sound of units and systems where a system makes one more unit.
use Rattle.clnp_machine.proofs.ClnpBase.Lists.{AllByRecursion-implies}
use Rattle.std.proofs.Common.{ℕ, List, [], ◌∷◌, ◌++◌, arith}
use Rattle.clnp_machine.specs.ScenarioPlan.Plan.{Plan}
use Rattle.clnp_machine.specs.Unit.{DataUnit}
use Rattle.clnp_machine.specs.System.{SystemState}
use Rattle.clnp_machine.specs.Local.{with_use, makes}
use Rattle.clnp_safety.specs.Invariant.{EachRests, BufferIsSound, SystemIsSound}
use Rattle.clnp_safety.proofs.Draws.{AreSound, Draws, IsMadeNow, rest_after, sound_after}
use Rattle.clnp_safety.proofs.Units.{buffer_later}

-- a unit that the system at a place makes, with the next identifier where it has one
pub record IsNew (place : ℕ) (s : SystemState) (u : DataUnit) : Type 0 where
  pub made : IsMadeNow s.moment place u
  pub draws : Draws s.moment s.identifiers (with_use s u.identifier) (u ∷ [])

module _ (plan : Plan) (units : List DataUnit) (place : ℕ) (s : SystemState) (u : DataUnit) (new : IsNew place s u) (h : SystemIsSound plan units place s) where
  before : AreSound plan.limits.reuse s.moment place units s.identifiers
  before = record { reuse_is = h.reuse; uses = h.uses; accounted = h.accounted }

  pub new_rests : EachRests plan.limits.reuse units → EachRests plan.limits.reuse (units ++ u ∷ [])
  new_rests rest =
      rest_after plan.limits.reuse s.moment s.moment place units s.identifiers (omega arith) before (with_use s u.identifier) (u ∷ []) (new.made, tt) rest new.draws

  -- the system that made it
  pub maker_after : SystemIsSound plan (units ++ u ∷ []) place (makes s u).after
  maker_after =
      let ids = sound_after plan.limits.reuse s.moment s.moment place units s.identifiers (omega arith) before (with_use s u.identifier) (u ∷ []) (new.made, tt)
      new.draws in
      record {
        stands_at = h.stands_at;
        declared = h.declared;
        hold = h.hold;
        reuse = ids.reuse_is;
        uses = ids.uses;
        accounted = ids.accounted;
        buffers = AllByRecursion-implies (BufferIsSound plan units) (BufferIsSound plan (units ++ u ∷ [])) (buffer_later units (u ∷ []) plan) s.buffers h.buffers;
        not_due = h.not_due;
        not_whole = h.not_whole;
        budget = h.budget;
        known = h.known;
        attached = h.attached;
        ports = h.ports;
      }
