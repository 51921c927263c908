use Rattle.std.proofs.Common.{◌≡◌, ℕ, List, ◌∙◌, sym, subst, true≢false}
use Rattle.hex.specs.Hex.{IsBytes}
use Rattle.pdus.proofs.ClnpBase.SameOctets.{same_from, same_from_equal}
use Rattle.captures.specs.Shown.{Shows}
use Rattle.captures.proofs.CaptureText.Answered.{packs, shown_otherwise}
use Rattle.captures.proofs.capture_text.pack.shown_by.Goals as goal

pub returns-then-same : goal.returns-then-same
returns-then-same c =
    let frame : List ℕ = c.args.frame.items in
    let shown : List ℕ = c.in_ok-shown.shown.items in
    let B : List ℕ → Type 0 = λ t. IsBytes t in
    let P : List ℕ → Type 0 = λ t. Shows t shown in
    let is : shown ≡ c.args.line.now =
    sym c.deref-2.ensures.value ∙ same_from c.deref-2.result.now c.args.line.now (sym c.same.ensures ∙ c.if-same.true) in
    packs c.args.line.now frame shown (subst B c.deref.ensures.value c.shown.ensures.octets) c.requires.packable
    (subst P c.deref.ensures.value c.in_ok-shown.ensures.line) is

pub returns-else-same : goal.returns-else-same
returns-else-same c =
    let frame : List ℕ = c.args.frame.items in
    let shown : List ℕ = c.in_ok-shown.shown.items in
    let P : List ℕ → Type 0 = λ t. Shows t shown in
    shown_otherwise c.one_line.ensures.one c.args.line.now frame shown c.requires.read
    (subst P c.deref.ensures.value c.in_ok-shown.ensures.line)
    (λ is. true≢false (sym (same_from_equal c.deref-2.result.now c.args.line.now (c.deref-2.ensures.value ∙ is)) ∙ sym c.same.ensures ∙ c.if-same.false))
