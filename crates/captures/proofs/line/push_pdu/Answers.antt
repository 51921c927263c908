use Rattle.std.proofs.Common.{codes, option_map}
use Rattle.pdus.specs.ClnpOptions.Parameter.{parameters}
use Rattle.pdus.specs.Nsap.Text.{hex_text}
use Rattle.pdus.specs.PduHeader.View.{pdu_value, part_value}
use Rattle.captures.specs.Shown.{front_text, segmentation_text}
use Rattle.captures.specs.Words.{options_text}
use Rattle.captures.proofs.Keeping.{keeps_appended, keeps_next, keeps_more, keeps_three, kept_always, kept_behind}
use Rattle.captures.proofs.Pieces.{behind, behind_field}
use Rattle.captures.proofs.line.push_pdu.Goals as goal

pub returns-in_err-push_segmentation-clause-kept : goal.returns-in_err-push_segmentation-clause-kept
returns-in_err-push_segmentation-clause-kept c =
    let old = c.args.line.now.items in
    let front = keeps_appended old _ c.push_front.new.line.items c.in_ok-push_front.ensures.written in
    kept_always c.from_residual-in_err-push_segmentation.result old c.push_segmentation.new.line.items
    (keeps_more old c.push_front.new.line.items c.push_segmentation.new.line.items front c.in_err-push_segmentation.ensures.kept)

pub returns-in_err-push_options-clause-kept : goal.returns-in_err-push_options-clause-kept
returns-in_err-push_options-clause-kept c =
    let old = c.args.line.now.items in
    let front = keeps_appended old _ c.push_front.new.line.items c.in_ok-push_front.ensures.written in
    let part = keeps_next old c.push_front.new.line.items _ c.push_segmentation.new.line.items front c.in_ok-push_segmentation.ensures.written in
    kept_always c.from_residual-in_err-push_options.result old c.push_options.new.line.items
    (keeps_more old c.push_segmentation.new.line.items c.push_options.new.line.items part c.in_err-push_options.ensures.kept)

pub returns-in_err-push_octets-clause-kept : goal.returns-in_err-push_octets-clause-kept
returns-in_err-push_octets-clause-kept c =
    let old = c.args.line.now.items in
    let header = keeps_three old c.push_front.new.line.items c.push_segmentation.new.line.items c.push_options.new.line.items _ _ _
    c.in_ok-push_front.ensures.written c.in_ok-push_segmentation.ensures.written c.in_ok-push_options.ensures.written in
    kept_always c.from_residual-in_err-push_octets.result old c.push_octets.new.line.items
    (keeps_more old c.push_options.new.line.items c.push_octets.new.line.items header c.in_err-push_octets.ensures.kept)

pub returns-clause-kept : goal.returns-clause-kept
returns-clause-kept c =
    let old = c.args.line.now.items in
    let header = keeps_three old c.push_front.new.line.items c.push_segmentation.new.line.items c.push_options.new.line.items _ _ _
    c.in_ok-push_front.ensures.written c.in_ok-push_segmentation.ensures.written c.in_ok-push_options.ensures.written in
    kept_behind c.push_octets-2.result old c.push_octets.new.line.items c.push_octets-2.new.line.items
    (keeps_next old c.push_options.new.line.items _ c.push_octets.new.line.items header c.in_ok-push_octets.ensures.written)
    c.push_octets-2.ensures.kept

pub returns-clause-written : goal.returns-clause-written
returns-clause-written c =
    let r = c.push_octets-2.result in
    let now = c.push_octets-2.new.line.items in
    behind r c.args.line.now.items c.push_front.new.line.items now (front_text (pdu_value c.args.pdu.now) c.args.pdu.now.sum) _
    c.in_ok-push_front.ensures.written
    (behind r c.push_front.new.line.items c.push_segmentation.new.line.items now
    (segmentation_text (option_map part_value c.args.pdu.now.seg)) _ c.in_ok-push_segmentation.ensures.written
    (behind r c.push_segmentation.new.line.items c.push_options.new.line.items now (options_text (parameters c.args.pdu.now.options.now)) _
    c.in_ok-push_options.ensures.written
    (behind_field r c.push_options.new.line.items c.push_octets.new.line.items now (codes " data=") (hex_text c.args.pdu.now.body.now) _
    c.in_ok-push_octets.ensures.written c.push_octets-2.ensures.written)))
