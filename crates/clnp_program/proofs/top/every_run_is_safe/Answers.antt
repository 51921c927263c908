use Rattle.clnp_safety.specs.Runs.{RunsAreSafe}
use Rattle.clnp_program.proofs.Fit.{of_fit}
use Rattle.clnp_program.proofs.top.every_run_is_safe.Goals as goal

pub returns-clause-safe : goal.returns-clause-safe
returns-clause-safe c = of_fit RunsAreSafe c.accepted_is_fit.ensures c.runs_are_safe.ensures

pub returns-clause-storms : goal.returns-clause-storms
returns-clause-storms c seed = (c.storms_are_scenarios.ensures.text seed, c.storms_are_scenarios.ensures.closed seed)

pub returns-clause-traces : goal.returns-clause-traces
returns-clause-traces c plan =
    record {
      trace_is = c.the_trace_without_its_own_lines_is_the_journal.ensures.trace plan;
      journal_is = c.the_trace_without_its_own_lines_is_the_journal.ensures.journal plan;
      told_once = c.what_becomes_of_a_copy_is_told_once.ensures plan.limits;
      told_first = c.a_giving_is_told_before_what_it_causes.ensures plan.limits;
    }
