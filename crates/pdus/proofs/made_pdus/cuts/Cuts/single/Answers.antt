use Rattle.std.proofs.Common.{◌≡◌, ◌≢◌, ◌∙◌, sym, None}
use Rattle.pdus.specs.declared.made_pdus.cuts.Cuts.TheInside.{Inside}
use Rattle.pdus.proofs.MadePdus.Given.{not_single, single_is}
use Rattle.pdus.proofs.made_pdus.cuts.Cuts.single.Goals.{in_default-via-in-None+else-self-eq1, in_default-via-in_default}
use Rattle.pdus.proofs.made_pdus.cuts.Cuts.single.Goals as goal

pub returns-in-None-clause-single : goal.returns-in-None-clause-single
returns-in-None-clause-single c = sym c.self.view_is ∙ single_is c.self.inside c.self.invariant c.in-None.is c.if-self-eq1.true

pub returns-in_default-clause-none : goal.returns-in_default-clause-none
returns-in_default-clause-none c head len e =
    let s : Inside = c.self.inside in
    let cut : s.part ≡ None → s.left ≢ 1 =
    elim c.in_default.branch [
      | in_default-via-in-None+else-self-eq1 w ↦ λ none. w.if-self-eq1.false
      | in_default-via-in_default w ↦ λ none. absurd (w.in_default.not-None none)
    ] in
    not_single s c.self.invariant cut head len (c.self.view_is ∙ e)
