use Rattle.std.proofs.Common.{◌≡◌, ℕ, ◌+◌, List, ◌++◌, length, ap, ◌∙◌, arith, length-append}
use Rattle.std.proofs.lemmas.List.{append_assoc}
use Rattle.byteorder.specs.Endian.{big_bytes}
use Rattle.frame_links.proofs.pcap_frames.making.put_record_header.Goals as goal

four_more : (old new : List ℕ) (number : ℕ) → new ≡ old ++ big_bytes 4 number → length new ≡ length old + 4
four_more old new number e = ap length e ∙ length-append old (big_bytes 4 number)

joined : (old a b c d : List ℕ) → (((old ++ a) ++ b) ++ c) ++ d ≡ old ++ (a ++ (b ++ (c ++ d)))
joined old a b c d = simp append_assoc

pub put_four-requires-2 : goal.put_four-requires-2
put_four-requires-2 c =
    omega (arith, four_more c.args.out.now.items c.put_four.new.out.items c.args.seconds c.put_four.ensures.items, c.put_four.ensures.room, c.requires)

pub put_four-requires-3 : goal.put_four-requires-3
put_four-requires-3 c =
    omega (
      arith,
      four_more c.args.out.now.items c.put_four.new.out.items c.args.seconds c.put_four.ensures.items,
      four_more c.put_four.new.out.items c.put_four-2.new.out.items 0 c.put_four-2.ensures.items,
      c.put_four.ensures.room,
      c.put_four-2.ensures.room,
      c.requires,
    )

pub put_four-requires-4 : goal.put_four-requires-4
put_four-requires-4 c =
    omega (
      arith,
      four_more c.args.out.now.items c.put_four.new.out.items c.args.seconds c.put_four.ensures.items,
      four_more c.put_four.new.out.items c.put_four-2.new.out.items 0 c.put_four-2.ensures.items,
      four_more c.put_four-2.new.out.items c.put_four-3.new.out.items c.args.size c.put_four-3.ensures.items,
      c.put_four.ensures.room,
      c.put_four-2.ensures.room,
      c.put_four-3.ensures.room,
      c.requires,
    )

pub returns-clause-items : goal.returns-clause-items
returns-clause-items c =
    let size = big_bytes 4 c.args.size in
    c.put_four-4.ensures.items
    ∙ ap (λ (t : List ℕ). t ++ size)
    (c.put_four-3.ensures.items
    ∙ ap (λ (t : List ℕ). t ++ size) (c.put_four-2.ensures.items ∙ ap (λ (t : List ℕ). t ++ big_bytes 4 0) c.put_four.ensures.items))
    ∙ joined c.args.out.now.items (big_bytes 4 c.args.seconds) (big_bytes 4 0) size size
