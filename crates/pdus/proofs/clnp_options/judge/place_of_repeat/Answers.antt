use Rattle.std.proofs.Common.{arith, inl, inr}
use Rattle.pdus.proofs.ClnpOptions.Places.{RepeatSoFar-start, RepeatSoFar-found, RepeatSoFar-passed, RepeatSoFar-end}
use Rattle.pdus.proofs.clnp_options.judge.place_of_repeat.Goals as goal
use Rattle.pdus.proofs.clnp_options.judge.place_of_repeat.Goals.{else-code-via-then-code+else-seen-code, else-code-via-else-code}

pub loop-code-init : goal.loop-code-init
loop-code-init c = record {
  at = omega arith;
  so_far = RepeatSoFar-start c.args.first c.args.part.now;
}

pub returns-then-seen-code : goal.returns-then-seen-code
returns-then-seen-code c =
    RepeatSoFar-found _ _ _ _ _ _ _ c.loop-code.invariant.so_far c.in-Some.ensures.options (omega arith) c.if-code.true c.if-seen-code.true

pub loop-code-preserved : goal.loop-code-preserved
loop-code-preserved c = record {
  at = omega (arith, c.in-Some.ensures.len, c.loop-code.invariant.at);
  so_far = RepeatSoFar-passed _ _ _ _ _ _ _ c.loop-code.invariant.so_far c.in-Some.ensures.options (omega arith)
      (elim c.else-code.branch [ else-code-via-then-code+else-seen-code w ↦ inr w.if-seen-code.false | else-code-via-else-code w ↦ inl w.if-code.false ]);
}

pub returns : goal.returns
returns c = RepeatSoFar-end _ _ _ _ _ c.loop-code.invariant.so_far c.in_default.ensures.none
