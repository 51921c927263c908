-- A data unit is asked for.
use Rattle.std.proofs.lemmas.Result.{on_ok_weaker}
use Rattle.clnp_systems.proofs.entity.SystemEntity.send_or_note.Goals as goal

pub returns-clause-step : goal.returns-clause-step
returns-clause-step c =
    on_ok_weaker c.make_or_note.result (λ did role. record {
      stands = λ s h. (did s h).stands;
      outputs = λ s h. (did s h).outputs;
      moment = c.make_or_note.ensures.moment;
      config = c.make_or_note.ensures.config;
    })
    c.make_or_note.ensures.did
