use Rattle.std.proofs.Common.{arith, sym, ◌∙◌}
use Rattle.pdus.specs.ClnpOptions.Tests.{test_of}
use Rattle.pdus.proofs.ClnpOptions.Places.{place_of-found_at, place_of-passed_at, place_of-none_at}
use Rattle.pdus.proofs.clnp_options.judge.place_of.Goals as goal

pub returns-then-picks : goal.returns-then-picks
returns-then-picks c =
    place_of-found_at (test_of c.args.test) c.loop-code.place _ _ _ _ c.in-Some.ensures.options c.loop-code.invariant.same (sym c.picks.ensures ∙ c.if-picks.true)

pub loop-code-preserved : goal.loop-code-preserved
loop-code-preserved c = record {
  at = omega (arith, c.in-Some.ensures.len, c.loop-code.invariant.at);
  same = place_of-passed_at (test_of c.args.test) c.loop-code.place _ _ _ _ c.in-Some.ensures.options c.loop-code.invariant.same (sym c.picks.ensures ∙ c.if-picks.false);
}

pub returns : goal.returns
returns c = place_of-none_at (test_of c.args.test) c.loop-code.place _ _ c.in_default.ensures.none c.loop-code.invariant.same
