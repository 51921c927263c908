use Rattle.std.proofs.Common.{arith, refl, rules}
use Rattle.clnp_systems.proofs.endpoint.Endpoint.report_of.Goals as goal

pub returns-clause-report : goal.returns-clause-report
returns-clause-report c table s stands = record {
  own = c.in_ok-own.own.now;
  is_draft = record {
    kind = refl;
    identifier = refl;
    source = refl;
    destination = c.in_ok-made.ensures.to;
    spells = search rules;
    shown = rw (c.narrow.ensures.octets, c.from.ensures) c.in_ok-made.ensures.data;
  };
  made = search rules;
}

pub narrow-requires : goal.narrow-requires
narrow-requires c = omega (arith, c.from.ensures, c.in_ok-made.ensures.within)
