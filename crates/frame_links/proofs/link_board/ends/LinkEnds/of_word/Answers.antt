use Rattle.std.proofs.Common.{None, Some, length, refl, sym, ap, ◌∙◌, arith}
use Rattle.std.proofs.lemmas.Bool.Decides.{nat_tests}
use Rattle.frame_links.specs.LinkBoard.Words.{each, parts_left, peer_of}
use Rattle.frame_links.proofs.LinkBoard.Peers.{all_read, ends_read, less_left, no_local, no_peer, no_word, none_yet, peer_read, text_in, too_many, word_read}
use Rattle.frame_links.proofs.link_board.ends.LinkEnds.of_word.Goals as goal

pub returns-then-not-starts_with : goal.returns-then-not-starts_with
returns-then-not-starts_with c = sym (no_word c.args.word.now (sym c.starts_with.ensures.value ∙ c.if-not-starts_with.true))

pub split_at-requires : goal.split_at-requires
split_at-requires c = c.if-not-starts_with.ensures.bound refl

pub returns-in_err-local : goal.returns-in_err-local
returns-in_err-local c =
    let first = c.first_part.result.0.now in
    let others = parts_left 44 (text_in c.first_part.result.1) in
    c.from_residual.ensures
    ∙ sym (word_read c.args.word.now c.split_at.result.1.now first others None
    (sym c.starts_with.ensures.value ∙ c.if-not-starts_with.false) c.split_at.ensures.back c.first_part.ensures.parts
    (no_local first others (sym c.end_of.ensures ∙ c.in_err-local.was)))

pub loop-left-init : goal.loop-left-init
loop-left-init c = record {
  all = none_yet c.new-peers.result.items (parts_left 44 (text_in c.first_part.result.1)) c.new-peers.ensures;
  few = omega (arith, ap length c.new-peers.ensures);
}

pub returns-in_err-peer : goal.returns-in_err-peer
returns-in_err-peer c =
    let first = c.first_part.result.0.now in
    let others = parts_left 44 (text_in c.first_part.result.1) in
    c.from_residual-in_err-peer.ensures
    ∙ sym (word_read c.args.word.now c.split_at.result.1.now first others None
    (sym c.starts_with.ensures.value ∙ c.if-not-starts_with.false) c.split_at.ensures.back c.first_part.ensures.parts
    (no_peer first others c.loop-left.peers.items (text_in c.loop-left.left) c.in-Some.text.now c.first_part-in-Some.result.0.now
    (parts_left 44 (text_in c.first_part-in-Some.result.1)) c.loop-left.invariant.all (ap text_in c.in-Some.is)
    c.first_part-in-Some.ensures.parts (sym c.peer_of.ensures ∙ c.in_err-peer.was)))

pub returns-then-is_full : goal.returns-then-is_full
returns-then-is_full c =
    let first = c.first_part.result.0.now in
    let others = parts_left 44 (text_in c.first_part.result.1) in
    sym (word_read c.args.word.now c.split_at.result.1.now first others None
    (sym c.starts_with.ensures.value ∙ c.if-not-starts_with.false) c.split_at.ensures.back c.first_part.ensures.parts
    (too_many first others c.loop-left.peers.items (text_in c.loop-left.left) c.in-Some.text.now c.first_part-in-Some.result.0.now
    (parts_left 44 (text_in c.first_part-in-Some.result.1)) c.in_ok-peer.peer c.loop-left.invariant.all (ap text_in c.in-Some.is)
    c.first_part-in-Some.ensures.parts (sym c.peer_of.ensures ∙ c.in_ok-peer.was) (grind (arith, nat_tests, c.is_full.ensures.value, c.if-is_full.true))))

pub push-requires : goal.push-requires
push-requires c = (omega arith, grind (arith, nat_tests, c.is_full.ensures.value, c.is_full.ensures.fits, c.if-is_full.false))

pub loop-left-smaller : goal.loop-left-smaller
loop-left-smaller c = less_left c.loop-left.left c.first_part-in-Some.result.1 c.in-Some.text c.in-Some.is c.first_part-in-Some.ensures.shorter

pub loop-left-preserved : goal.loop-left-preserved
loop-left-preserved c = record {
  all = peer_read (each peer_of (parts_left 44 (text_in c.first_part.result.1))) c.loop-left.peers.items c.push.new.self.items
      (text_in c.loop-left.left) c.in-Some.text.now c.first_part-in-Some.result.0.now
      (parts_left 44 (text_in c.first_part-in-Some.result.1)) c.in_ok-peer.peer c.loop-left.invariant.all (ap text_in c.in-Some.is)
      c.first_part-in-Some.ensures.parts (sym c.peer_of.ensures ∙ c.in_ok-peer.was) c.push.ensures.items;
  few = grind (arith, nat_tests, c.push.ensures.len, c.is_full.ensures.value, c.is_full.ensures.fits, c.if-is_full.false);
}

pub returns : goal.returns
returns c =
    let first = c.first_part.result.0.now in
    let others = parts_left 44 (text_in c.first_part.result.1) in
    let peers = c.loop-left.peers.items in
    sym (word_read c.args.word.now c.split_at.result.1.now first others (Some (record { local = c.in_ok-local.local; peers = peers }))
    (sym c.starts_with.ensures.value ∙ c.if-not-starts_with.false) c.split_at.ensures.back c.first_part.ensures.parts
    (ends_read first others c.in_ok-local.local peers (sym c.end_of.ensures ∙ c.in_ok-local.was)
    (all_read (each peer_of others) peers (text_in c.loop-left.left) c.loop-left.invariant.all (ap text_in c.in_default.is)) c.loop-left.invariant.few))
