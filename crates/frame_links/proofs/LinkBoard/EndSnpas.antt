-- The SNPA of an end, and the end with an SNPA.
use Rattle.std.proofs.Common.{◌≡◌, ℕ, ◌<◌, ◌==◌, Bool, true, false, if◌then◌else◌, List, [], ◌++◌, length, take, drop, Option, None, Some, refl, sym, ap, ◌∙◌, arith, append-nil, length-append}
use Rattle.std.proofs.lemmas.Bool.Decides.{nat_tests}
use Rattle.std.proofs.lemmas.List.{drop_all, take_all, take-append-drop}
use Rattle.hex.specs.Hex.{IsBytes}
use Rattle.byteorder.specs.Endian.{big_bytes, big_number}
use Rattle.byteorder.specs.Numbers.{big_number-reads_back, length-bytes_high_first}
use Rattle.frame_links.specs.LinkBoard.Ends.{IsEnd, end_at, end_named, snpa_of}
use Rattle.frame_links.specs.declared.link_board.end.End.{End}
use Rattle.frame_links.specs.declared.pcap_frames.order.Order.TheVariants.{HighFirst}
use Rattle.frame_links.specs.PcapFrames.Numbers.{number, value}
use Rattle.frame_links.proofs.LinkBoard.Sending.{drop_front, take_front}
use Rattle.frame_links.proofs.PcapFrames.NumberFacts.{two_behind}

named_end : (address : List ℕ) (port : ℕ) → 0 < port → end_named address port ≡ Some (record { address = address; port = port })
named_end address port h =
    let some : (port == 0) ≡ false = grind (arith, nat_tests, h) in
    rw some refl

pub end_of_its_snpa : (end : End) → IsEnd end → end_at (snpa_of end) ≡ Some end
end_of_its_snpa end is =
    let octets = big_bytes 2 end.port in
    let long : length (end.address ++ octets) ≡ 6 =
    omega (arith, length-append end.address octets, is.four, length-bytes_high_first 2 end.port) in
    let address : take 4 (end.address ++ octets) ≡ end.address =
    take_front 4 end.address octets (omega (arith, is.four)) ∙ take_all 4 end.address (omega (arith, is.four)) in
    let behind : drop 4 (end.address ++ octets) ≡ octets ++ [] =
    drop_front 4 end.address octets (omega (arith, is.four))
    ∙ ap (λ xs. xs ++ octets) (drop_all 4 end.address (omega (arith, is.four))) ∙ sym (append-nil octets) in
    let port : big_number 2 (octets ++ []) ≡ end.port = big_number-reads_back 2 end.port [] (omega (arith, is.within)) in
    rw (long, address, behind, port) (named_end end.address end.port is.some)

snpa_in : Option End → List ℕ
snpa_in None = []
snpa_in (Some end) = snpa_of end

of_port : (snpa : List ℕ) (end : End) (none : Bool) → IsBytes snpa → length snpa ≡ 6
    → (if none then None else Some (record { address = take 4 snpa; port = big_number 2 (drop 4 snpa) })) ≡ Some end
    → snpa_of end ≡ snpa
unfolding number value snpa_in
of_port snpa end true bytes long e = absurd (cc e)
of_port snpa end false bytes long e =
    let octets : drop 4 snpa ≡ big_bytes 2 (big_number 2 (drop 4 snpa)) ++ drop 6 snpa = two_behind HighFirst snpa 4 bytes (omega (arith, long)) in
    let all : drop 4 snpa ≡ big_bytes 2 (big_number 2 (drop 4 snpa)) =
    octets ∙ ap (λ xs. big_bytes 2 (big_number 2 (drop 4 snpa)) ++ xs) (drop_all 6 snpa (omega (arith, long))) ∙ append-nil _ in
    sym (ap snpa_in e) ∙ ap (λ xs. take 4 snpa ++ xs) (sym all) ∙ take-append-drop 4 snpa

of_six : (snpa : List ℕ) (end : End) (six : Bool) → IsBytes snpa → (length snpa == 6) ≡ six
    → (if six then end_named (take 4 snpa) (big_number 2 (drop 4 snpa)) else None) ≡ Some end → snpa_of end ≡ snpa
of_six snpa end false bytes l e = absurd (cc e)
of_six snpa end true bytes l e = of_port snpa end _ bytes (grind (arith, nat_tests, l)) e

pub snpa_of_its_end : (snpa : List ℕ) (end : End) → IsBytes snpa → end_at snpa ≡ Some end → snpa_of end ≡ snpa
snpa_of_its_end snpa end bytes e = of_six snpa end (length snpa == 6) bytes refl e
