use Rattle.std.proofs.Common.{refl}
use Rattle.scenario.specs.Grammar.{plan_of_version_1}
use Rattle.clnp_safety.proofs.Migrating.{of_each, text_migrates}
use Rattle.clnp_safety.proofs.laws.texts_of_version_1_migrate.Goals as goal

pub returns : goal.returns
returns c text =
    of_each text (plan_of_version_1 text) refl (λ plan is.
    let read = (c.version_1_is_read_alike.ensures.accepted text plan).0 is in
    let fit = c.accepted_is_fit.ensures text plan read.0 in
    record {
      written = text_migrates text plan is;
      read = c.migrated_is_fit.ensures.text plan fit;
      together = c.migrated_is_fit.ensures.together plan fit read.1;
      run = c.migrated_scenarios_run_alike.ensures.run plan;
      journal = c.migrated_scenarios_run_alike.ensures.journal plan;
    })
