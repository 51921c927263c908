use Rattle.std.proofs.Common.{◌≡◌, ◌∙◌, List, ℕ, arith, length, map, vec_len}
use Rattle.clnp_plan.specs.Journal.{line_of}
use Rattle.clnp_plan.specs.Words.{word_text}
use Rattle.clnp_plan.proofs.Laying.{before_room, filled, lies_within}
use Rattle.clnp_plan.proofs.line.push_line.Goals as goal

pub returns-clause-written : goal.returns-clause-written
returns-clause-written c =
    let old = c.args.out.now.items in
    let start = c.len-start.result in
    let given = c.deref_mut.result.now in
    let place = c.lay_line-len.new.place in
    let len = c.lay_line-len.result in
    let line : List ℕ = line_of (word_text c.args.first) (map word_text c.args.others.now) in
    let at : start ≡ length old = omega arith in
    let front = before_room old _ c.make_room.new.out.items given start at c.deref_mut.ensures.value c.in_ok-make_room.ensures.written in
    let within = lies_within old given place line start len (vec_len c.make_room.new.out) at front c.lay_line-len.auto.place c.lay_line-len.ensures.end
    c.lay_line-len.ensures.laid c.deref_mut.ensures.len in
    c.truncate.ensures.items
    ∙ filled old given place line _ _ start len c.make_room.new.out.len at c.lay_line-len.ensures.end c.lay_line-len.ensures.laid front within

pub overflow_add-start : goal.overflow_add-start
overflow_add-start c =
    let old = c.args.out.now.items in
    let start = c.len-start.result in
    let given = c.deref_mut.result.now in
    let place = c.lay_line-len.new.place in
    let len = c.lay_line-len.result in
    let line : List ℕ = line_of (word_text c.args.first) (map word_text c.args.others.now) in
    let at : start ≡ length old = omega arith in
    let front = before_room old _ c.make_room.new.out.items given start at c.deref_mut.ensures.value c.in_ok-make_room.ensures.written in
    let within = lies_within old given place line start len (vec_len c.make_room.new.out) at front c.lay_line-len.auto.place c.lay_line-len.ensures.end
    c.lay_line-len.ensures.laid c.deref_mut.ensures.len in
    omega (arith, within)
