-- What a pool of identifiers stands for.
use Rattle.std.specs.Prelude.{◌≡◌, ℕ, ◌%◌, ◌^◌, slice_get, Some}
use Rattle.clnp_machine.specs.Identifiers.{Use, Identifiers, NotDrawn, IsQuiet, IsBusy, last_use, next}
use Rattle.clnp_systems.specs.declared.pool.DrawRefusal.{DrawRefusal}
use Rattle.clnp_systems.specs.declared.pool.DrawRefusal.TheVariants as draw_refusal
use Rattle.clnp_systems.specs.declared.pool.IdPool.{IdPool}

-- what the code's refusal says
abbrev pub told : DrawRefusal → NotDrawn
told (draw_refusal.Quiet until) = IsQuiet until
told (draw_refusal.IdsBusy used) = IsBusy used

-- a pool stands for these identifiers
pub record Stands (pool : IdPool) (ids : Identifiers) : Type 0 where
  pub reuse : pool.reuse ≡ ids.reuse
  pub quiet : pool.quiet ≡ ids.quiet
  -- the uses went round, so that the one at place i, from 0, is of the identifier i modulo 65,536
  pub went_round : (i : ℕ) (given : Use) → slice_get ids.uses i ≡ Some given → given.identifier ≡ i % 2 ^ 16
  pub next : pool.next ≡ next ids
  -- an identifier without a use has no moment
  pub moments : (identifier : ℕ) → slice_get pool.moments identifier ≡ last_use identifier ids.uses
