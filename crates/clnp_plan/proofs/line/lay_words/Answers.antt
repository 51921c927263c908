use Rattle.std.proofs.Common.{List, ℕ, [], ◌∷◌, arith, flat_map, map, subst, sym, take}
use Rattle.std.proofs.lemmas.List.{take_all}
use Rattle.clnp_plan.specs.Journal.{behind_space}
use Rattle.clnp_plan.specs.Laying.{Lays}
use Rattle.clnp_plan.specs.Words.{word_text}
use Rattle.clnp_plan.proofs.Laying.{laid_on, one_more, room_for_one}
use Rattle.clnp_plan.proofs.line.lay_words.Goals as goal

pub lay_octet-end-requires : goal.lay_octet-end-requires
lay_octet-end-requires c =
    let room = room_for_one c.args.words.now c.loop-word.word-index c.word-item.result (omega arith) c.word-item.is in
    omega (arith, room, c.requires, c.loop-word.invariant.0, c.loop-word.invariant.2)

pub lay_word-end-requires : goal.lay_word-end-requires
lay_word-end-requires c =
    let room = room_for_one c.args.words.now c.loop-word.word-index c.word-item.result (omega arith) c.word-item.is in
    omega (arith, room, c.requires, c.loop-word.invariant.0, c.loop-word.invariant.2, c.lay_octet-end.ensures.0, c.lay_octet-end.ensures.2)

pub loop-word-preserved : goal.loop-word-preserved
loop-word-preserved c =
    let words = c.args.words.now in
    let index = c.loop-word.word-index in
    let word = c.word-item.result in
    let before : List ℕ = flat_map behind_space (map word_text (take index words)) in
    let place = c.loop-word.place in
    let end = c.lay_word-end.result in
    let new = c.lay_word-end.new.place in
    let one = laid_on c.loop-word.end (32 ∷ []) (word_text word) place c.lay_octet-end.new.place new c.lay_octet-end.result end
    c.lay_octet-end.ensures c.lay_word-end.ensures in
    let both = laid_on c.args.at before (32 ∷ word_text word) c.args.place.now place new c.loop-word.end end c.loop-word.invariant one in
    subst (λ (l : List ℕ). Lays c.args.at l c.args.place.now end new)
    (sym (one_more words index word c.loop-word-test.true c.word-item.is)) both

pub returns : goal.returns
returns c =
    subst (λ l. Lays c.args.at (flat_map behind_space (map word_text l)) c.args.place.now c.loop-word.end c.loop-word.place)
    (take_all c.loop-word.word-index c.args.words.now c.loop-word-test.false) c.loop-word.invariant
