use Rattle.std.proofs.Common.{◌≡◌, ◌∙◌, refl, ℕ, ◌+◌, ◌-◌, ◌^◌, ◌<◌, ◌≤◌, [], ◌∷◌, length, arith}
use Rattle.clnp_machine.specs.EsisTables.Gone.{gone}
use Rattle.clnp_machine.specs.Esis.{gone_note}
use Rattle.clnp_systems.proofs.Fronts.{front_more, front_none}
use Rattle.clnp_systems.proofs.Forgetting.{appended_length, all_forgotten, none_forgotten, one_forgotten}
use Rattle.clnp_systems.proofs.esis.telling.forget.Goals as goal

-- what a list has left of its most elements
shrinks : (before after len cap : ℕ) → after ≡ before + 1 → len ≡ after → len ≤ cap → cap < 2 ^ 63 → 2 ^ 63 - after < 2 ^ 63 - before
shrinks before after len cap more is within small = omega arith

pub loop-ended-init : goal.loop-ended-init
loop-ended-init c = record {
  limits = refl;
  forgot = λ facts before moment stands later.
      none_forgotten moment c.args.now c.args.tables.now c.args.out.now.items facts (gone before c.args.now facts)
      (c.time_goes_on.ensures c.args.tables.now facts before c.args.now stands later);
  front = front_none c.args.out.now.items;
}

pub loop-ended-smaller : goal.loop-ended-smaller
loop-ended-smaller c =
    shrinks (length c.loop-ended.out.items) (length c.give_note.new.out.items) c.give_note.new.out.len c.give_note.new.out.cap
    (appended_length c.args.now c.loop-ended.out.items c.give_note.new.out.items (gone_note c.in-Some.ended ∷ []) (c.in_ok-give_note.ensures.given c.args.now))
    c.give_note.new.out.ok.0 c.give_note.new.out.ok.1 c.give_note.new.out.small

pub loop-ended-preserved : goal.loop-ended-preserved
loop-ended-preserved c = record {
  limits = c.flush.ensures.limits ∙ c.loop-ended.invariant.limits;
  forgot = λ facts before moment stands later.
      one_forgotten moment c.args.now c.loop-ended.tables c.flush.new.self c.args.out.now.items c.loop-ended.out.items c.give_note.new.out.items c.in-Some.ended
      c.flush.result facts (gone before c.args.now facts) (c.loop-ended.invariant.forgot facts before moment stands later) c.in-Some.is c.flush.ensures.next
      (c.in_ok-give_note.ensures.given moment);
  front = front_more c.args.out.now.items c.loop-ended.out.items c.give_note.new.out.items c.loop-ended.invariant.front c.give_note.ensures.front;
}

pub returns-clause-stands : goal.returns-clause-stands
returns-clause-stands c = λ facts before stands later.
    (all_forgotten c.args.now c.args.now c.loop-ended.tables c.flush.new.self c.args.out.now.items c.loop-ended.out.items c.flush.result facts
    (gone before c.args.now facts) (c.loop-ended.invariant.forgot facts before c.args.now stands later) c.in_default.is c.flush.ensures.next).stands

pub returns-clause-outputs : goal.returns-clause-outputs
returns-clause-outputs c = λ facts before moment stands later.
    (all_forgotten moment c.args.now c.loop-ended.tables c.flush.new.self c.args.out.now.items c.loop-ended.out.items c.flush.result facts
    (gone before c.args.now facts) (c.loop-ended.invariant.forgot facts before moment stands later) c.in_default.is c.flush.ensures.next).appends
