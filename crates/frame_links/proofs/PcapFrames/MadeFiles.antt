-- Files that are made of frames.
use Rattle.std.proofs.Common.{◌≡◌, ℕ, ◌+◌, ◌-◌, ◌≤◌, List, [], ◌∷◌, ◌++◌, length, map, max, replicate, take, Option, Some, refl, ap, ◌∙◌, arith, length-append}
use Rattle.std.proofs.lemmas.List.{append_assoc, length-replicate, take-replicate}
use Rattle.std.specs.List.{AllByRecursion, cons_option}
use Rattle.byteorder.specs.Endian.{big_bytes}
use Rattle.byteorder.specs.Numbers.{length-bytes_high_first}
use Rattle.pdus.proofs.ClnpBase.Lists.{AllByRecursion-mapped}
use Rattle.frame_links.specs.declared.pcap_frames.order.Order.TheVariants.{HighFirst}
use Rattle.frame_links.specs.PcapFrames.File.{IsCaptured, Pcap, captured_octets}
use Rattle.frame_links.specs.PcapFrames.Frames.{IsOsiFrame, OsiFrame, frame_octets, seen_in}
use Rattle.frame_links.specs.PcapFrames.Making.{Frame, IsFrame, frame_seen, frames_in, made_file, made_header, made_record, padded}
use Rattle.frame_links.specs.PcapFrames.Numbers.{number}
use Rattle.frame_links.proofs.PcapFrames.FrameFacts.{laid_out_is_seen}

pub length-frame_octets : (to from pdu : List ℕ) → IsOsiFrame to from pdu → length (frame_octets to from pdu) ≡ 17 + length pdu
length-frame_octets to from pdu osi =
    let to_size = osi.to_size in
    let from_size = osi.from_size in
    let number = big_bytes 2 (length pdu + 3) in
    omega (
      arith,
      length-append to (from ++ (number ++ (254 ∷ 254 ∷ 3 ∷ pdu))),
      length-append from (number ++ (254 ∷ 254 ∷ 3 ∷ pdu)),
      length-append number (254 ∷ 254 ∷ 3 ∷ pdu),
      length-bytes_high_first 2 (length pdu + 3),
    )

pub length-padded : (octets : List ℕ) → length (padded octets) ≡ length octets + (60 - length octets)
length-padded octets =
    length-append octets (replicate (60 - length octets) 0) ∙ ap (λ (n : ℕ). length octets + n) (length-replicate (60 - length octets) 0)

made_is_captured : (f : Frame) → IsFrame f → IsCaptured (made_record f)
made_is_captured f is =
    let few = is.osi.few in
    let seconds = is.seconds in
    let size = length-frame_octets f.to f.from f.pdu is.osi in
    let filled = length-padded (frame_octets f.to f.from f.pdu) in
    record { seconds = seconds; fraction = omega arith; original = omega arith; few = omega arith }

pub made_is_file : (frames : List Frame) → AllByRecursion IsFrame frames → Pcap HighFirst (map made_record frames) (made_file frames)
made_is_file frames are =
    record {
      header = made_header;
      right = record {
        fits = record { zone = omega arith; accuracy = omega arith; snap = omega arith; link = omega arith };
        ethernet = refl;
      };
      each = AllByRecursion-mapped IsFrame IsCaptured made_record frames made_is_captured are;
      spelled = refl;
    }

frame_again : (f : Frame) → 1 ≤ length f.pdu → frame_seen f.seconds (OsiFrame f.to f.from f.pdu) ≡ Some f
frame_again f some = by_pdu f.seconds f.to f.from f.pdu some
  where
    by_pdu : (seconds : ℕ) (to from pdu : List ℕ) → 1 ≤ length pdu
        → frame_seen seconds (OsiFrame to from pdu) ≡ Some (record { seconds = seconds; to = to; from = from; pdu = pdu })
    by_pdu seconds to from [] some = absurd (omega arith)
    by_pdu seconds to from (x ∷ xs) some = refl

pub made_is_seen : (f : Frame) → IsFrame f → frame_seen f.seconds (seen_in (padded (frame_octets f.to f.from f.pdu))) ≡ Some f
made_is_seen f is =
    ap (frame_seen f.seconds) (laid_out_is_seen (padded (frame_octets f.to f.from f.pdu)) f.to f.from f.pdu _ is.osi refl) ∙ frame_again f is.some

pub made_frames_again : (frames : List Frame) → AllByRecursion IsFrame frames → frames_in (map made_record frames) ≡ frames
made_frames_again [] are = refl
made_frames_again (f ∷ fs) are =
    ap (λ (o : Option Frame). cons_option o (frames_in (map made_record fs))) (made_is_seen f are.0)
    ∙ ap (λ (rest : List Frame). f ∷ rest) (made_frames_again fs are.1)

-- ---- a record put piece by piece

-- what stands before a frame, and before its PDU
abbrev pub before_frame : (seconds size : ℕ) → List ℕ
before_frame seconds size = big_bytes 4 seconds ++ (big_bytes 4 0 ++ (big_bytes 4 size ++ big_bytes 4 size))

abbrev pub before_pdu : (to from : List ℕ) (counted : ℕ) → List ℕ
before_pdu to from counted = to ++ (from ++ (big_bytes 2 counted ++ (254 ∷ 254 ∷ 3 ∷ [])))

pub record_put : (f : Frame) (size : ℕ) (old a b c new : List ℕ) → IsOsiFrame f.to f.from f.pdu → size ≡ max 60 (17 + length f.pdu)
    → a ≡ old ++ before_frame f.seconds size → b ≡ a ++ before_pdu f.to f.from (length f.pdu + 3) → c ≡ b ++ f.pdu
    → new ≡ c ++ take (size - (17 + length f.pdu)) (replicate 42 0) → 1 ≤ length f.pdu
    → new ≡ old ++ captured_octets HighFirst (made_record f)
unfolding number
record_put f size old a b c new osi size_is e_a e_b e_c e_new some =
    let frame = frame_octets f.to f.from f.pdu in
    let length_is = length-frame_octets f.to f.from f.pdu osi in
    let padded_is = length-padded frame in
    let same_size : size ≡ length (padded frame) = omega arith in
    let room : size - (17 + length f.pdu) ≡ 60 - length frame = omega arith in
    let zeros : take (size - (17 + length f.pdu)) (replicate 42 0) ≡ replicate (60 - length frame) 0 =
    take-replicate (size - (17 + length f.pdu)) 42 0 (omega arith) ∙ ap (λ (n : ℕ). replicate n 0) room in
    let front = before_pdu f.to f.from (length f.pdu + 3) in
    e_new
    ∙ ap (λ (t : List ℕ). t ++ take (size - (17 + length f.pdu)) (replicate 42 0))
    (e_c ∙ ap (λ (t : List ℕ). t ++ f.pdu) (e_b ∙ ap (λ (t : List ℕ). t ++ front) e_a))
    ∙ ap (λ (t : List ℕ). (((old ++ before_frame f.seconds size) ++ front) ++ f.pdu) ++ t) zeros
    ∙ ap (λ (n : ℕ). (((old ++ before_frame f.seconds n) ++ front) ++ f.pdu) ++ replicate (60 - length frame) 0) same_size
    ∙ simp append_assoc
