use Rattle.std.proofs.Common.{arith, refl, sym, ◌∙◌, inl, inr}
use Rattle.pdus.proofs.ClnpOptions.Titles.{are_titles-bad, are_titles-step, are_titles-empty}
use Rattle.pdus.proofs.clnp_options.form.are_titles.Goals as goal
use Rattle.pdus.proofs.clnp_options.form.are_titles.Goals.{then-size-lt1-via-then-size-lt1, then-size-lt1-via-else-size-lt1+then-size-gt20, then-size-lt1-via-else-size-lt1+else-size-gt20+then-size-others}

pub returns-then-size-lt1 : goal.returns-then-size-lt1
returns-then-size-lt1 c =
    let h = c.loop-rest.invariant in
    let any = c.in-len1-up.len_at_least in
    elim c.then-size-lt1.branch [
      | then-size-lt1-via-then-size-lt1 w ↦ sym (are_titles-bad c.loop-rest.rest.now any (inl (inl (omega arith)))) ∙ h
      | then-size-lt1-via-else-size-lt1+then-size-gt20 w ↦ sym (are_titles-bad c.loop-rest.rest.now any (inl (inr (omega arith)))) ∙ h
      | then-size-lt1-via-else-size-lt1+else-size-gt20+then-size-others w ↦ sym (are_titles-bad c.loop-rest.rest.now any (inr (omega arith))) ∙ h
    ]

pub loop-rest-preserved : goal.loop-rest-preserved
loop-rest-preserved c =
    are_titles-step c.loop-rest.rest.now _ _ (omega arith) (omega arith) (omega arith) (omega arith) refl refl ∙ c.loop-rest.invariant

pub returns : goal.returns
returns c = sym (are_titles-empty c.loop-rest.rest.now c.in_default.len_below) ∙ c.loop-rest.invariant
