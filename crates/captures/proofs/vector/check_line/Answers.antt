use Rattle.std.proofs.Common.{refl}
use Rattle.captures.specs.Vectors.{vector_of}
use Rattle.captures.proofs.VectorFacts.{skipped, skipped_syntax, skipped_count}
use Rattle.captures.proofs.vector.check_line.Goals as goal

pub returns-then-is_skipped-clause-skipped : goal.returns-then-is_skipped-clause-skipped
returns-then-is_skipped-clause-skipped c =
    (λ h. skipped c.args.line.now (cc), λ h. refl)

pub returns-then-is_skipped-clause-syntax : goal.returns-then-is_skipped-clause-syntax
returns-then-is_skipped-clause-syntax c =
    skipped_syntax _ _ (vector_of c.args.line.now) refl (skipped c.args.line.now (cc))

pub returns-then-is_skipped-clause-count : goal.returns-then-is_skipped-clause-count
returns-then-is_skipped-clause-count c =
    skipped_count _ _ (vector_of c.args.line.now) refl (skipped c.args.line.now (cc))
