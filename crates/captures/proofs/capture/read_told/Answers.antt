use Rattle.std.proofs.Common.{arith}
use Rattle.captures.proofs.CaptureFacts.{frame, told_skipped, told_long, told_frame, told_odd, told_bad, told_unread}
use Rattle.captures.proofs.capture.read_told.Goals as goal

pub returns-then-is_skipped-clause-told : goal.returns-then-is_skipped-clause-told
returns-then-is_skipped-clause-told c = told_skipped c.args.line.now (cc)

pub returns-then-line-gt-MOST_OCTETS-clause-told : goal.returns-then-line-gt-MOST_OCTETS-clause-told
returns-then-line-gt-MOST_OCTETS-clause-told c = told_long c.args.line.now c.refusal_of.result (cc) (omega arith) c.refusal_of.ensures

pub returns-in-Ok-clause-told : goal.returns-in-Ok-clause-told
returns-in-Ok-clause-told c = told_frame c.args.line.now c.in-Ok.ensures.written.octets (cc) c.in-Ok.ensures.written.spelled (omega arith)

pub returns-in-Ok-clause-read : goal.returns-in-Ok-clause-read
returns-in-Ok-clause-read c = λ answered. (
  c.in-Ok.ensures.written.octets,
  frame c.args.line.now c.in-Ok.ensures.written.octets (cc) c.in-Ok.ensures.written.spelled (omega arith),
  c.in-Ok.ensures.written.appended,
)

pub returns-in-Err-OddLength-clause-told : goal.returns-in-Err-OddLength-clause-told
returns-in-Err-OddLength-clause-told c = told_odd c.args.line.now (cc) (c.push_spelled.ensures.odd.0 (cc))

pub returns-in-Err-BadDigit-clause-told : goal.returns-in-Err-BadDigit-clause-told
returns-in-Err-BadDigit-clause-told c =
    let bad = c.push_spelled.ensures.bad (cc) in told_bad c.args.line.now bad.0 bad.1 (cc) bad.2

pub returns-in-Err-NoMemory-clause-told : goal.returns-in-Err-NoMemory-clause-told
returns-in-Err-NoMemory-clause-told c = told_unread c.args.line.now c.refusal_of-in-Err-NoMemory.result (cc) (omega arith) c.refusal_of-in-Err-NoMemory.ensures
