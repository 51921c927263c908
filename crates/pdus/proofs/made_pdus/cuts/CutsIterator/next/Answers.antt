use Rattle.std.proofs.Common.{◌≡◌, ◌∙◌, ◌*◌, refl, length, ap, sym, arith}
use Rattle.pdus.specs.PduHeader.Value.{PduValue}
use Rattle.pdus.specs.declared.made_pdus.cuts.Cuts.TheInside.{Inside}
use Rattle.pdus.specs.MadePdus.Range.{Range}
use Rattle.pdus.specs.MadePdus.Left.{of_zeros, piece_header}
use Rattle.pdus.proofs.MadePdus.Cutting.{length-zeros}
use Rattle.pdus.proofs.MadePdus.Given.{next_is, none_header, part_here, range_within, some_header}
use Rattle.pdus.proofs.made_pdus.cuts.CutsIterator.next.Goals.{in-None, in-Some}
use Rattle.pdus.proofs.made_pdus.cuts.CutsIterator.next.Goals as goal

pub segment_header-head-requires : goal.segment_header-head-requires
segment_header-head-requires c =
    let w : PduValue = of_zeros c.self.inside.head c.self.inside.body_len in (
      w,
      c.self.invariant.spells,
      part_here w c.self.inside.part c.in-Some.part c.in-Some.is c.self.invariant.part,
      omega (arith, c.min-len.ensures, length-zeros c.self.inside.head c.self.inside.body_len, range_within c.self.inside c.self.inside.number c.self.invariant (omega arith)),
    )

pub overflow_add-self : goal.overflow_add-self
overflow_add-self c = omega (arith, c.self.invariant.few)

pub returns-clause-steps : goal.returns-clause-steps
returns-clause-steps c =
    let s : Inside = c.self.inside in
    let range : Range = record { from = s.number * s.room; len = c.min-len.result } in
    let head : c.match-self.head ≡ piece_header s.head s.body_len s.part range =
    elim c.match-self.branch [
      | in-None w ↦ w.head-is ∙ none_header s.head s.body_len s.part range w.in-None.is
      | in-Some w ↦
          let v : PduValue = of_zeros s.head s.body_len in
          let has = part_here v s.part w.in-Some.part w.in-Some.is c.self.invariant.part in
          let within = range_within s s.number c.self.invariant (omega arith) in
          w.head-is
          ∙ (w.segment_header-head.ensures v c.self.invariant.spells has (omega (arith, within, c.min-len.ensures, length-zeros s.head s.body_len))).octets_are
          ∙ some_header s.head s.body_len s.part w.in-Some.part range w.in-Some.is
    ] in
    sym c.self.view_is ∙ next_is s c.match-self.head (s.number * s.room) c.min-len.result c.if-self-eq0.false refl c.min-len.ensures head

pub returns-clause-goes : goal.returns-clause-goes
returns-clause-goes c =
    let fewer = ap length (returns-clause-steps c) in
    record { on = λ finite. (tt, tt, omega (arith, fewer)); keeps = tt; rests = λ finite. tt }
