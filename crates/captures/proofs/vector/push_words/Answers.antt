use Rattle.std.proofs.Common.{codes}
use Rattle.std.specs.Fmt.{decimal}
use Rattle.captures.proofs.Keeping.{keeps_appended, kept_always, kept_same}
use Rattle.captures.proofs.Pieces.{behind_field}
use Rattle.captures.proofs.vector.push_words.Goals as goal

pub returns-in_err-push_numbered-in-Fail-clause-kept : goal.returns-in_err-push_numbered-in-Fail-clause-kept
returns-in_err-push_numbered-in-Fail-clause-kept c =
    kept_always c.from_residual.result c.args.text.now.items c.push_numbered-in-Fail.new.text.items c.in_err-push_numbered-in-Fail.ensures.kept

pub returns-in-Pass-clause-written : goal.returns-in-Pass-clause-written
returns-in-Pass-clause-written c = rw c.in-Pass.is c.push_numbered.ensures.written

pub returns-in-Pass-clause-kept : goal.returns-in-Pass-clause-kept
returns-in-Pass-clause-kept c = c.push_numbered.ensures.kept

pub returns-in_ok-push_numbered-in-Fail-clause-written : goal.returns-in_ok-push_numbered-in-Fail-clause-written
returns-in_ok-push_numbered-in-Fail-clause-written c =
    rw c.in-Fail.is (behind_field c.push.result c.args.text.now.items c.push_numbered-in-Fail.new.text.items c.push.new.out.items (decimal c.args.number) (codes " fail ") _ c.in_ok-push_numbered-in-Fail.ensures.written c.push.ensures.written)

pub returns-in_ok-push_numbered-in-Fail-clause-kept : goal.returns-in_ok-push_numbered-in-Fail-clause-kept
returns-in_ok-push_numbered-in-Fail-clause-kept c =
    let old = c.args.text.now.items in
    kept_same c.push.result old c.push_numbered-in-Fail.new.text.items c.push.new.out.items
    (keeps_appended old _ c.push_numbered-in-Fail.new.text.items c.in_ok-push_numbered-in-Fail.ensures.written) c.push.ensures.same
