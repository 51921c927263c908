use Rattle.std.proofs.Common.{◌≡◌, ◌++◌, ℕ, List, OnOk, codes, subst}
use Rattle.std.specs.Fmt.{decimal}
use Rattle.pdus.specs.Nsap.Text.{hex_text}
use Rattle.pdus.specs.PduHeader.View.{pdu_value}
use Rattle.captures.specs.Shown.{front_text, kind_and_flags_text}
use Rattle.captures.specs.Words.{pair_word}
use Rattle.captures.proofs.Keeping.{keeps_appended, keeps_next, keeps_more, keeps_three, kept_always, kept_behind}
use Rattle.captures.proofs.Pieces.{behind, behind_field}
use Rattle.captures.proofs.line.push_front.Goals as goal

pub returns-in_err-push_number-clause-kept : goal.returns-in_err-push_number-clause-kept
returns-in_err-push_number-clause-kept c =
    let old = c.args.line.now.items in
    let kind = keeps_appended old _ c.push_kind.new.line.items c.in_ok-push_kind.ensures.written in
    kept_always c.from_residual-in_err-push_number.result old c.push_number.new.out.items
    (keeps_more old c.push_kind.new.line.items c.push_number.new.out.items kind c.in_err-push_number.ensures.kept)

pub returns-in_err-push_pair-clause-kept : goal.returns-in_err-push_pair-clause-kept
returns-in_err-push_pair-clause-kept c =
    let old = c.args.line.now.items in
    let kind = keeps_appended old _ c.push_kind.new.line.items c.in_ok-push_kind.ensures.written in
    let life = keeps_next old c.push_kind.new.line.items _ c.push_number.new.out.items kind c.in_ok-push_number.ensures.written in
    kept_always c.from_residual-in_err-push_pair.result old c.push_pair.new.line.items
    (keeps_more old c.push_number.new.out.items c.push_pair.new.line.items life c.in_err-push_pair.ensures.kept)

pub returns-in_err-push_octets-clause-kept : goal.returns-in_err-push_octets-clause-kept
returns-in_err-push_octets-clause-kept c =
    let old = c.args.line.now.items in
    let front = keeps_three old c.push_kind.new.line.items c.push_number.new.out.items c.push_pair.new.line.items _ _ _
    c.in_ok-push_kind.ensures.written c.in_ok-push_number.ensures.written c.in_ok-push_pair.ensures.written in
    kept_always c.from_residual-in_err-push_octets.result old c.push_octets.new.line.items
    (keeps_more old c.push_pair.new.line.items c.push_octets.new.line.items front c.in_err-push_octets.ensures.kept)

pub returns-clause-kept : goal.returns-clause-kept
returns-clause-kept c =
    let old = c.args.line.now.items in
    let front = keeps_three old c.push_kind.new.line.items c.push_number.new.out.items c.push_pair.new.line.items _ _ _
    c.in_ok-push_kind.ensures.written c.in_ok-push_number.ensures.written c.in_ok-push_pair.ensures.written in
    kept_behind c.push_octets-2.result old c.push_octets.new.line.items c.push_octets-2.new.line.items
    (keeps_next old c.push_pair.new.line.items _ c.push_octets.new.line.items front c.in_ok-push_octets.ensures.written)
    c.push_octets-2.ensures.kept

pub returns-clause-written : goal.returns-clause-written
unfolding front_text
returns-clause-written c =
    let Life : ℕ → Type 0 = λ n. c.push_number.new.out.items ≡ c.push_kind.new.line.items ++ (codes " life=" ++ decimal n) in
    let To : List ℕ → Type 0 = λ to. c.push_octets.new.line.items ≡ c.push_pair.new.line.items ++ (codes " to=" ++ hex_text to) in
    let From : List ℕ → Type 0 = λ from. OnOk c.push_octets-2.result (c.push_octets-2.new.line.items ≡ c.push_octets.new.line.items ++ (codes " from=" ++ hex_text from)) in
    let r = c.push_octets-2.result in
    let now = c.push_octets-2.new.line.items in
    behind r c.args.line.now.items c.push_kind.new.line.items now (kind_and_flags_text (pdu_value c.args.pdu.now)) _
    c.in_ok-push_kind.ensures.written
    (behind_field r c.push_kind.new.line.items c.push_number.new.out.items now (codes " life=") (decimal c.args.pdu.now.life) _
    (subst Life c.from.ensures c.in_ok-push_number.ensures.written)
    (behind_field r c.push_number.new.out.items c.push_pair.new.line.items now (codes " sum=") (pair_word c.args.pdu.now.sum) _
    c.in_ok-push_pair.ensures.written
    (behind_field r c.push_pair.new.line.items c.push_octets.new.line.items now (codes " to=") (hex_text c.args.pdu.now.to) _
    (subst To c.as_bytes.ensures.octets c.in_ok-push_octets.ensures.written)
    (subst From c.as_bytes-2.ensures.octets c.push_octets-2.ensures.written))))
