use Rattle.std.proofs.Common.{refl}
use Rattle.captures.specs.Captures.{capture_of}
use Rattle.captures.specs.Vectors.{vector_of}
use Rattle.captures.proofs.VectorFacts.{no_arrow, at_any, at_digits, at_frame, at_no_frame, malformed_skipped, malformed_syntax, malformed_count, read_syntax, read_count, line_syntax, line_count}
use Rattle.captures.proofs.vector.read_vector.Goals as goal

pub returns-in_default-clause-skipped : goal.returns-in_default-clause-skipped
returns-in_default-clause-skipped c =
    malformed_skipped (vector_of c.args.line.now) (no_arrow c.args.line.now c.requires c.in_default.ensures)

pub returns-in_default-clause-syntax : goal.returns-in_default-clause-syntax
returns-in_default-clause-syntax c =
    malformed_syntax _ (vector_of c.args.line.now) refl (no_arrow c.args.line.now c.requires c.in_default.ensures)

pub returns-in_default-clause-count : goal.returns-in_default-clause-count
returns-in_default-clause-count c =
    malformed_count _ (vector_of c.args.line.now) refl (no_arrow c.args.line.now c.requires c.in_default.ensures)

pub returns-in-Ok-true-clause-skipped : goal.returns-in-Ok-true-clause-skipped
returns-in-Ok-true-clause-skipped c =
    at_any c.args.line.now c.in-Some.digits.now c.in-Some.expected.now c.requires c.in-Some.ensures.0 c.in-Some.ensures.1

pub returns-in-Ok-true-clause-syntax : goal.returns-in-Ok-true-clause-syntax
returns-in-Ok-true-clause-syntax c =
    let found = c.read_capture.ensures.read (cc) in
    read_syntax _ _ (vector_of c.args.line.now) found.0 c.in-Some.expected.now refl
    (at_frame c.args.line.now c.in-Some.digits.now c.in-Some.expected.now found.0 c.requires c.in-Some.ensures.0 c.in-Some.ensures.1 found.1)

pub returns-in-Ok-true-clause-count : goal.returns-in-Ok-true-clause-count
returns-in-Ok-true-clause-count c =
    let found = c.read_capture.ensures.read (cc) in
    read_count _ _ (vector_of c.args.line.now) found.0 c.in-Some.expected.now refl
    (at_frame c.args.line.now c.in-Some.digits.now c.in-Some.expected.now found.0 c.requires c.in-Some.ensures.0 c.in-Some.ensures.1 found.1)

pub returns-in-Ok-true-clause-read : goal.returns-in-Ok-true-clause-read
returns-in-Ok-true-clause-read c =
    let found = c.read_capture.ensures.read (cc) in
    (found.0, at_frame c.args.line.now c.in-Some.digits.now c.in-Some.expected.now found.0 c.requires c.in-Some.ensures.0 c.in-Some.ensures.1 found.1, found.2)

pub returns-in-Ok-false-clause-skipped : goal.returns-in-Ok-false-clause-skipped
returns-in-Ok-false-clause-skipped c =
    at_any c.args.line.now c.in-Some.digits.now c.in-Some.expected.now c.requires c.in-Some.ensures.0 c.in-Some.ensures.1

pub returns-in-Ok-false-clause-syntax : goal.returns-in-Ok-false-clause-syntax
returns-in-Ok-false-clause-syntax c =
    malformed_syntax _ (vector_of c.args.line.now) refl
    (at_no_frame c.args.line.now c.in-Some.digits.now c.in-Some.expected.now c.requires c.in-Some.ensures.0 c.in-Some.ensures.1 (c.read_capture.ensures.skipped.0 (cc)))

pub returns-in-Ok-false-clause-count : goal.returns-in-Ok-false-clause-count
returns-in-Ok-false-clause-count c =
    malformed_count _ (vector_of c.args.line.now) refl
    (at_no_frame c.args.line.now c.in-Some.digits.now c.in-Some.expected.now c.requires c.in-Some.ensures.0 c.in-Some.ensures.1 (c.read_capture.ensures.skipped.0 (cc)))

pub returns-in-Err-clause-skipped : goal.returns-in-Err-clause-skipped
returns-in-Err-clause-skipped c =
    at_any c.args.line.now c.in-Some.digits.now c.in-Some.expected.now c.requires c.in-Some.ensures.0 c.in-Some.ensures.1

pub returns-in-Err-clause-syntax : goal.returns-in-Err-clause-syntax
returns-in-Err-clause-syntax c =
    line_syntax c.read_capture.result _ (capture_of c.in-Some.digits.now) (vector_of c.args.line.now) c.in-Err.refusal c.in-Some.expected.now
    (at_digits c.args.line.now c.in-Some.digits.now c.in-Some.expected.now c.requires c.in-Some.ensures.0 c.in-Some.ensures.1)
    c.in-Err.is refl c.read_capture.ensures.skipped c.read_capture.ensures.syntax

pub returns-in-Err-clause-count : goal.returns-in-Err-clause-count
returns-in-Err-clause-count c =
    line_count c.read_capture.result _ (capture_of c.in-Some.digits.now) (vector_of c.args.line.now) c.in-Err.refusal c.in-Some.expected.now
    (at_digits c.args.line.now c.in-Some.digits.now c.in-Some.expected.now c.requires c.in-Some.ensures.0 c.in-Some.ensures.1)
    c.in-Err.is refl c.read_capture.ensures.count
