-- All octets are written.
use Rattle.std.proofs.Common.{◌≡◌, ◌+◌, ◌%◌, arith, length}
use Rattle.std.proofs.lemmas.List.FromFn.{fill_by_all}
use Rattle.clnp_plan.proofs.scenario_plan.event.row_from.Goals as goal

pub returns : goal.returns
returns c =
    let long : length c.loop-octet.octet-items ≡ 256 = omega (arith, c.loop-octet-test.array_long) in
    fill_by_all (λ column. (column + c.args.first) % 256) c.loop-octet.octet-items 256 0 long
    (λ k within. c.loop-octet.invariant.written k (omega (arith, c.loop-octet-test.false)))
