use Rattle.frame_links.proofs.LinkBoard.Parts.{one_more, two_parts}
use Rattle.frame_links.proofs.link_board.link_word.address_of.Goals as goal

pub returns : goal.returns
returns c =
    let first = c.in_default-Some.text in
    let second = c.in_default-Some-first_part.text in
    let third = c.in_default-Some-first_part-2.text in
    rw (one_more 46 c.args.text.now c.first_part.result.0.now c.first_part.result.1 first _ c.first_part.ensures.parts c.in_default-Some.is-1
    (one_more 46 first.now c.first_part-2.result.0.now c.first_part-2.result.1 second _ (rw c.in_default-Some.text-is at c.first_part-2.ensures.parts) c.in_default-Some-first_part.is-1
    (two_parts 46 second.now c.first_part-3.result.0.now c.first_part-4.result.0.now c.first_part-3.result.1 c.first_part-4.result.1 third
    (rw c.in_default-Some-first_part.text-is at c.first_part-3.ensures.parts) c.in_default-Some-first_part-2.is-1 (rw c.in_default-Some-first_part-2.text-is at c.first_part-4.ensures.parts) c.in_default-None.is-1)))
    c.octets_of.ensures
