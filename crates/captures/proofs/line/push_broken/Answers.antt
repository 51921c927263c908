use Rattle.std.proofs.Common.{◌≡◌, ◌++◌, ℕ, List, OnOk, codes, subst}
use Rattle.std.specs.Fmt.{decimal}
use Rattle.captures.specs.Words.{octet_word}
use Rattle.captures.proofs.Keeping.{keeps_appended, keeps_next, keeps_more, keeps_same, keeps_three, kept_always, kept_same}
use Rattle.captures.proofs.Pieces.{behind, behind_field}
use Rattle.captures.proofs.line.push_broken.Goals as goal

pub returns-in_err-push_octets-clause-kept : goal.returns-in_err-push_octets-clause-kept
returns-in_err-push_octets-clause-kept c =
    let old = c.args.line.now.items in
    let front = keeps_appended old _ c.push_number.new.out.items c.in_ok-push_number.ensures.written in
    kept_always c.from_residual-in_err-push_octets.result old c.push_octets.new.line.items
    (keeps_more old c.push_number.new.out.items c.push_octets.new.line.items front c.in_err-push_octets.ensures.kept)

pub returns-in_err-push_octets-2-clause-kept : goal.returns-in_err-push_octets-2-clause-kept
returns-in_err-push_octets-2-clause-kept c =
    let old = c.args.line.now.items in
    let front = keeps_appended old _ c.push_number.new.out.items c.in_ok-push_number.ensures.written in
    let reason = keeps_next old c.push_number.new.out.items _ c.push_octets.new.line.items front c.in_ok-push_octets.ensures.written in
    kept_always c.from_residual-in_err-push_octets-2.result old c.push_octets-2.new.line.items
    (keeps_more old c.push_octets.new.line.items c.push_octets-2.new.line.items reason c.in_err-push_octets-2.ensures.kept)

pub returns-in_err-push-clause-kept : goal.returns-in_err-push-clause-kept
returns-in_err-push-clause-kept c =
    let old = c.args.line.now.items in
    let front = keeps_three old c.push_number.new.out.items c.push_octets.new.line.items c.push_octets-2.new.line.items _ _ _
    c.in_ok-push_number.ensures.written c.in_ok-push_octets.ensures.written c.in_ok-push_octets-2.ensures.written in
    kept_always c.from_residual-in_err-push.result old c.push.new.out.items
    (keeps_same old c.push_octets-2.new.line.items c.push.new.out.items front c.in_err-push.ensures.same)

pub returns-clause-kept : goal.returns-clause-kept
returns-clause-kept c =
    let old = c.args.line.now.items in
    let front = keeps_three old c.push_number.new.out.items c.push_octets.new.line.items c.push_octets-2.new.line.items _ _ _
    c.in_ok-push_number.ensures.written c.in_ok-push_octets.ensures.written c.in_ok-push_octets-2.ensures.written in
    kept_same c.push-2.result old c.push.new.out.items c.push-2.new.out.items
    (keeps_next old c.push_octets-2.new.line.items _ c.push.new.out.items front c.in_ok-push.ensures.written) c.push-2.ensures.same

pub returns-clause-written : goal.returns-clause-written
returns-clause-written c =
    let Rule : ℕ → Type 0 = λ n. c.push_number.new.out.items ≡ c.args.line.now.items ++ (codes "refused G" ++ decimal n) in
    let Report : List ℕ → Type 0 = λ word. OnOk c.push-2.result (c.push-2.new.out.items ≡ c.push.new.out.items ++ word) in
    let r = c.push-2.result in
    let now = c.push-2.new.out.items in
    behind_field r c.args.line.now.items c.push_number.new.out.items now (codes "refused G") (decimal c.args.broken.rule) _
    (subst Rule c.from.ensures c.in_ok-push_number.ensures.written)
    (behind_field r c.push_number.new.out.items c.push_octets.new.line.items now (codes " ") (octet_word c.args.broken.reason) _
    c.in_ok-push_octets.ensures.written
    (behind_field r c.push_octets.new.line.items c.push_octets-2.new.line.items now (codes " ") (octet_word c.args.broken.place) _
    c.in_ok-push_octets-2.ensures.written
    (behind r c.push_octets-2.new.line.items c.push.new.out.items now (codes " ") _ c.in_ok-push.ensures.written
    (subst Report c.report_text.ensures c.push-2.ensures.written))))
