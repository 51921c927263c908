use Rattle.std.proofs.Common.{◌∙◌, refl, sym, ap, ℕ, ◌+◌, List, length, arith, subst, ◌≡◌}
use Rattle.pdus.specs.PduHeader.Parts.{checked}
use Rattle.pdus.proofs.PduHeader.Taken.{TakesOver, length-checked, taken, taken_none, taken_all, one_same, one_more}
use Rattle.pdus.proofs.pdu_header.adjusting.adjust_each.Goals as goal
use Rattle.pdus.proofs.pdu_header.adjusting.adjust_each.Goals.{then-head-index, else-head-index}

pub loop-index-init : goal.loop-index-init
loop-index-init c is_sealed plain zero e = e ∙ ap (checked is_sealed) (taken_none plain c.args.changed.now c.args.start)

pub loop-index-preserved : goal.loop-index-preserved
loop-index-preserved c =
    let P : List ℕ → Type 0 = λ t. TakesOver c.args.head.now t c.args.changed.now c.args.start (c.loop-index.index + 1) in
    elim c.if-head-index.branch [
      | then-head-index w ↦
          subst P (sym w.head-is)
          (one_more c.args.head.now c.loop-index.head _ c.args.changed.now c.args.start c.loop-index.index (c.loop-index.index + 1) c.requires.behind c.loop-index.auto.index c.loop-index-test.true c.requires.same refl w.adjust.ensures c.loop-index.invariant)
      | else-head-index w ↦
          subst P (sym w.head-is)
          (one_same c.args.head.now c.loop-index.head c.args.changed.now c.args.start c.loop-index.index c.requires.behind c.loop-index.auto.index c.loop-index-test.true c.requires.same w.if-head-index.false c.loop-index.invariant)
    ]

pub returns : goal.returns
returns c is_sealed plain zero e =
    let size : length c.args.head.now ≡ length plain = ap length e ∙ length-checked is_sealed plain in
    let last : c.loop-index.index ≡ length plain = omega arith in
    c.loop-index.invariant is_sealed plain zero e
    ∙ ap (checked is_sealed)
    (ap (λ i. taken plain c.args.changed.now c.args.start i) last ∙ taken_all plain c.args.changed.now c.args.start (omega arith) (omega arith))
