-- The host or the router takes the step.
use Rattle.clnp_systems.proofs.system.System.step.Goals as goal

pub returns-in-Host-clause-step : goal.returns-in-Host-clause-step
returns-in-Host-clause-step c = rw c.in-Host.is c.step.ensures.step

pub returns-in-Router-clause-step : goal.returns-in-Router-clause-step
returns-in-Router-clause-step c = rw c.in-Router.is c.step-in-Router.ensures.step
