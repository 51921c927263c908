use Rattle.std.proofs.Common.{[], refl}
use Rattle.clnp_systems.proofs.local.Local.new.Goals as goal

pub new-requires : goal.new-requires
new-requires c = c.requires.quiet

pub invariant_of-result : goal.invariant_of-result
invariant_of-result c = record { hold = rw (c.in_ok-table.ensures.limits) c.requires.hold; none_whole = c.in_ok-table.ensures.none_whole }

pub returns-clause-stands : goal.returns-clause-stands
returns-clause-stands c place now = record {
  configuration = c.in_ok-endpoint.ensures.config;
  limits = rw (c.in_ok-table.ensures.limits, c.settings-settings.ensures) refl;
  count = c.in_ok-endpoint.ensures.count;
  identifiers = c.in_ok-endpoint.ensures.identifiers;
  buffers = [];
  table = c.in_ok-table.ensures.stands;
  shown = refl;
  packets = tt;
  pending = rw (c.in_ok-endpoint.ensures.pending) tt;
}

pub returns-clause-ready : goal.returns-clause-ready
returns-clause-ready c now = record { buffers = []; stands = c.in_ok-table.ensures.stands; ready = record { none_due = refl; none_whole = tt } }
