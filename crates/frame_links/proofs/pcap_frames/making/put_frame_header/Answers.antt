use Rattle.std.proofs.Common.{◌≡◌, ℕ, List, [], ◌∷◌, ◌++◌, ap, ◌∙◌}
use Rattle.std.proofs.lemmas.List.{append_assoc}
use Rattle.byteorder.specs.Endian.{big_bytes}
use Rattle.frame_links.proofs.pcap_frames.making.put_frame_header.Goals as goal

joined : (old a b c d : List ℕ) → (((old ++ a) ++ b) ++ c) ++ d ≡ old ++ (a ++ (b ++ (c ++ d)))
joined old a b c d = simp append_assoc

pub returns-clause-items : goal.returns-clause-items
returns-clause-items c =
    let osi = 254 ∷ 254 ∷ 3 ∷ [] in
    let counted = big_bytes 2 c.args.counted in
    c.put-4.ensures.items
    ∙ ap (λ (t : List ℕ). t ++ osi)
    (rw c.write_u16.ensures at c.put-3.ensures.items
    ∙ ap (λ (t : List ℕ). t ++ counted)
    (rw c.as_bytes-2.ensures.octets at c.put-2.ensures.items ∙ ap (λ (t : List ℕ). t ++ c.args.from.now) (rw c.as_bytes.ensures.octets at c.put.ensures.items)))
    ∙ joined c.args.out.now.items c.args.to.now c.args.from.now counted osi
