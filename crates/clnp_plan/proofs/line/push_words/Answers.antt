use Rattle.std.proofs.Common.{◌≡◌, ◌∙◌, List, ℕ, arith, flat_map, length, map, vec_len}
use Rattle.clnp_plan.specs.Journal.{behind_space}
use Rattle.clnp_plan.specs.Words.{word_text}
use Rattle.clnp_plan.proofs.Laying.{before_room, filled, lies_within}
use Rattle.clnp_plan.proofs.line.push_words.Goals as goal

pub returns-clause-written : goal.returns-clause-written
returns-clause-written c =
    let old = c.args.out.now.items in
    let start = c.len-start.result in
    let given = c.deref_mut.result.now in
    let place = c.lay_words-len.new.place in
    let len = c.lay_words-len.result in
    let line : List ℕ = flat_map behind_space (map word_text c.args.words.now) in
    let at : start ≡ length old = omega arith in
    let front = before_room old _ c.make_room.new.out.items given start at c.deref_mut.ensures.value c.in_ok-make_room.ensures.written in
    let size : len ≡ length line = omega (arith, c.lay_words-len.ensures.0) in
    let within = lies_within old given place line start len (vec_len c.make_room.new.out) at front c.lay_words-len.auto.place size
    c.lay_words-len.ensures.1 c.deref_mut.ensures.len in
    c.truncate.ensures.items
    ∙ filled old given place line _ _ start len c.make_room.new.out.len at size c.lay_words-len.ensures.1 front within

pub overflow_add-start : goal.overflow_add-start
overflow_add-start c =
    let old = c.args.out.now.items in
    let start = c.len-start.result in
    let given = c.deref_mut.result.now in
    let place = c.lay_words-len.new.place in
    let len = c.lay_words-len.result in
    let line : List ℕ = flat_map behind_space (map word_text c.args.words.now) in
    let at : start ≡ length old = omega arith in
    let front = before_room old _ c.make_room.new.out.items given start at c.deref_mut.ensures.value c.in_ok-make_room.ensures.written in
    let size : len ≡ length line = omega (arith, c.lay_words-len.ensures.0) in
    let within = lies_within old given place line start len (vec_len c.make_room.new.out) at front c.lay_words-len.auto.place size
    c.lay_words-len.ensures.1 c.deref_mut.ensures.len in
    omega (arith, within)
