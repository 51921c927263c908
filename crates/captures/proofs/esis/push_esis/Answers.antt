use Rattle.std.proofs.Common.{◌≡◌, ◌++◌, ℕ, List, codes, subst}
use Rattle.std.specs.Fmt.{decimal}
use Rattle.pdus.specs.ClnpOptions.Parameter.{parameters}
use Rattle.captures.specs.EsisShown.{body_text, esis_word}
use Rattle.captures.specs.Words.{options_text, pair_word}
use Rattle.captures.proofs.Keeping.{keeps_appended, keeps_itself, keeps_more, keeps_next, keeps_same, keeps_three, kept_always, kept_behind}
use Rattle.captures.proofs.Pieces.{behind, behind_field}
use Rattle.captures.proofs.esis.push_esis.Goals as goal

pub returns-in_err-push_body-clause-kept : goal.returns-in_err-push_body-clause-kept
returns-in_err-push_body-clause-kept c =
    let front = keeps_three c.args.line.now.items c.push.new.out.items c.push_number.new.out.items c.push_pair.new.line.items _ _ _
    c.in_ok-push.ensures.written c.in_ok-push_number.ensures.written c.in_ok-push_pair.ensures.written in
    kept_always c.from_residual-in_err-push_body.result c.args.line.now.items c.push_body.new.line.items
    (keeps_more c.args.line.now.items c.push_pair.new.line.items c.push_body.new.line.items front c.in_err-push_body.ensures.kept)

pub returns-in_err-push_options-clause-kept : goal.returns-in_err-push_options-clause-kept
returns-in_err-push_options-clause-kept c =
    let front = keeps_three c.args.line.now.items c.push.new.out.items c.push_number.new.out.items c.push_pair.new.line.items _ _ _
    c.in_ok-push.ensures.written c.in_ok-push_number.ensures.written c.in_ok-push_pair.ensures.written in
    let body = keeps_more c.args.line.now.items c.push_pair.new.line.items c.push_body.new.line.items front
    (keeps_appended c.push_pair.new.line.items _ c.push_body.new.line.items c.in_ok-push_body.ensures.written) in
    kept_always c.from_residual-in_err-push_options.result c.args.line.now.items c.push_options.new.line.items
    (keeps_more c.args.line.now.items c.push_body.new.line.items c.push_options.new.line.items body c.in_err-push_options.ensures.kept)

pub returns-clause-kept : goal.returns-clause-kept
returns-clause-kept c =
    let front = keeps_three c.args.line.now.items c.push.new.out.items c.push_number.new.out.items c.push_pair.new.line.items _ _ _
    c.in_ok-push.ensures.written c.in_ok-push_number.ensures.written c.in_ok-push_pair.ensures.written in
    let body = keeps_more c.args.line.now.items c.push_pair.new.line.items c.push_options.new.line.items front
    (keeps_more c.push_pair.new.line.items c.push_body.new.line.items c.push_options.new.line.items
    (keeps_appended c.push_pair.new.line.items _ c.push_body.new.line.items c.in_ok-push_body.ensures.written)
    (keeps_appended c.push_body.new.line.items _ c.push_options.new.line.items c.in_ok-push_options.ensures.written)) in
    kept_behind c.push_octets.result c.args.line.now.items c.push_options.new.line.items c.push_octets.new.line.items body
    c.push_octets.ensures.kept

pub returns-in_err-push-clause-kept : goal.returns-in_err-push-clause-kept
returns-in_err-push-clause-kept c =
    let old = c.args.line.now.items in
    kept_always c.from_residual.result old c.push.new.out.items
    (keeps_same old old c.push.new.out.items (keeps_itself old) c.in_err-push.ensures.same)

pub returns-in_err-push_number-clause-kept : goal.returns-in_err-push_number-clause-kept
returns-in_err-push_number-clause-kept c =
    let old = c.args.line.now.items in
    let kind = keeps_appended old _ c.push.new.out.items c.in_ok-push.ensures.written in
    kept_always c.from_residual-in_err-push_number.result old c.push_number.new.out.items
    (keeps_more old c.push.new.out.items c.push_number.new.out.items kind c.in_err-push_number.ensures.kept)

pub returns-in_err-push_pair-clause-kept : goal.returns-in_err-push_pair-clause-kept
returns-in_err-push_pair-clause-kept c =
    let old = c.args.line.now.items in
    let kind = keeps_appended old _ c.push.new.out.items c.in_ok-push.ensures.written in
    let hold = keeps_next old c.push.new.out.items _ c.push_number.new.out.items kind c.in_ok-push_number.ensures.written in
    kept_always c.from_residual-in_err-push_pair.result old c.push_pair.new.line.items
    (keeps_more old c.push_number.new.out.items c.push_pair.new.line.items hold c.in_err-push_pair.ensures.kept)

pub returns-clause-written : goal.returns-clause-written
returns-clause-written c =
    let Kind : List ℕ → Type 0 = λ word. c.push.new.out.items ≡ c.args.line.now.items ++ word in
    let Hold : ℕ → Type 0 = λ n. c.push_number.new.out.items ≡ c.push.new.out.items ++ (codes " hold=" ++ decimal n) in
    let r = c.push_octets.result in
    let now = c.push_octets.new.line.items in
    behind r c.args.line.now.items c.push.new.out.items now (esis_word c.args.pdu.body) _
    (subst Kind c.kind_text.ensures c.in_ok-push.ensures.written)
    (behind_field r c.push.new.out.items c.push_number.new.out.items now (codes " hold=") (decimal c.args.pdu.hold) _
    (subst Hold c.from.ensures c.in_ok-push_number.ensures.written)
    (behind_field r c.push_number.new.out.items c.push_pair.new.line.items now (codes " sum=") (pair_word c.args.pdu.sum) _
    c.in_ok-push_pair.ensures.written
    (behind r c.push_pair.new.line.items c.push_body.new.line.items now (body_text c.args.pdu.body) _ c.in_ok-push_body.ensures.written
    (behind r c.push_body.new.line.items c.push_options.new.line.items now (options_text (parameters c.args.pdu.options.now)) _
    c.in_ok-push_options.ensures.written c.push_octets.ensures.written))))
