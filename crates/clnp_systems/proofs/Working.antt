-- What is so of an entity that takes a step, and what a refusal says.
use Rattle.std.proofs.Common.{◌≡◌, ◌∙◌, refl, sym, ap, ℕ, ◌<◌, ◌^◌, true, length, Result, Ok, Err, IsErr, OnErr, OnOk}
use Rattle.std.proofs.lemmas.Result.{IfOk-from_err}
use Rattle.clnp_machine.specs.ClnpPlan.Configuration.{SystemConfiguration}
use Rattle.clnp_systems.specs.EsisState.{EsisState}
use Rattle.clnp_systems.specs.LocalState.{EntityState}
use Rattle.clnp_systems.specs.Deeds.{IsAtWork}
use Rattle.clnp_systems.specs.EntityState.{SystemEntityState}
use Rattle.clnp_systems.specs.EntityStands.{IsSound, StandsForSome}
use Rattle.clnp_systems.proofs.EntityParts.{while_spent}

-- its parts change as they like until it is whole again
pub sound_at_work : (here old : SystemEntityState) (local : EntityState) (esis : EsisState) (moment : ℕ) → here ≡ old → IsAtWork old → IsSound here
    → moment < 2 ^ 62 → local.configuration ≡ here.local.configuration
    → IsSound (record here { local = local; esis = esis; moment = moment })
sound_at_work here old local esis moment same work sound within config =
    let spent : here.spent ≡ true = ap (λ (e : SystemEntityState). e.spent) same ∙ work.spent in
    record {
      moment = within;
      wide = sound.wide;
      number = sound.number ∙ ap (λ (c : SystemConfiguration). length c.ports) (sym config);
      some = λ free. absurd (cc);
    }

-- once it is marked as spent it takes a step
pub sound_when_spent : (here : SystemEntityState) → IsSound here → IsSound (record here { spent = true })
sound_when_spent here sound =
    record { moment = sound.moment; wide = sound.wide; number = sound.number; some = λ free. absurd (cc) }

pub takes_a_step : (here : SystemEntityState) → StandsForSome here → IsAtWork (record here { spent = true })
takes_a_step here some =
    record { spent = refl; state = some.state; parts = while_spent here true some.state some.stands.parts }

-- a refusal is no success
pub on_ok_refused : {T E : Type 0} (r : Result T E) (P : Type 0) → IsErr r → OnOk r P
on_ok_refused r P refused = IfOk-from_err r (λ _. P) refused

pub on_err : {T E P : Type 0} (r : Result T E) → P → OnErr r P
on_err (Ok value) p = tt
on_err (Err refused) p = p
