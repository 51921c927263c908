use Rattle.std.proofs.Common.{arith, length}
use Rattle.captures.proofs.VectorFacts.{cut}
use Rattle.captures.proofs.vector.space_place.Goals as goal

pub returns-then-c-eq32-clause-before : goal.returns-then-c-eq32-clause-before
returns-then-c-eq32-clause-before c = (cut c.args.line.now c.loop-place.place (omega arith) c.loop-place.invariant (λ h. c.if-c-eq32.true)).0

pub returns-then-c-eq32-clause-from : goal.returns-then-c-eq32-clause-from
returns-then-c-eq32-clause-from c = (cut c.args.line.now c.loop-place.place (omega arith) c.loop-place.invariant (λ h. c.if-c-eq32.true)).1

pub returns-clause-before : goal.returns-clause-before
returns-clause-before c = (cut c.args.line.now (length c.args.line.now) (omega arith) (λ k h. c.loop-place.invariant k (omega arith)) (λ h. absurd (omega arith))).0

pub returns-clause-from : goal.returns-clause-from
returns-clause-from c = (cut c.args.line.now (length c.args.line.now) (omega arith) (λ k h. c.loop-place.invariant k (omega arith)) (λ h. absurd (omega arith))).1
