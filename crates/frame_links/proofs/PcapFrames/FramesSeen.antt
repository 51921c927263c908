-- The frames in the records of a file.
use Rattle.std.proofs.Common.{◌≡◌, ℕ, ◌+◌, ◌≤◌, inl, inr, List, [], ◌∷◌, ◌++◌, length, Option, Some, None, refl, subst, arith}
use Rattle.std.proofs.lemmas.List.{get_or_append_left, get_or-append-add, get_or_past}
use Rattle.std.proofs.lemmas.Bool.{cases_lt}
use Rattle.std.proofs.lemmas.Option.{none-some, same_Some}
use Rattle.std.specs.List.{AllByRecursion, cons_option}
use Rattle.hex.specs.Hex.{IsBytes}
use Rattle.frame_links.specs.declared.pcap_frames.order.Order.{Order}
use Rattle.frame_links.specs.PcapFrames.File.{Captured, IsCaptured, Pcap, all_captured, captured_octets, header_octets}
use Rattle.frame_links.specs.PcapFrames.Frames.{SeenFrame, OtherFrame, CutFrame, OsiFrame, seen_in}
use Rattle.frame_links.specs.PcapFrames.Making.{Frame, HasBytes, IsFrame, frame_seen, frames_in}
use Rattle.frame_links.specs.PcapFrames.Numbers.{number}
use Rattle.frame_links.proofs.PcapFrames.FrameFacts.{seen_are_bytes, seen_is_osi}

-- ---- what a frame tells of what was seen

record Told (seconds : ℕ) (seen : SeenFrame) (f : Frame) : Type 0 where
  pub seconds_is : f.seconds ≡ seconds
  pub seen_is : seen ≡ OsiFrame f.to f.from f.pdu
  pub some : 1 ≤ length f.pdu

told : (seconds : ℕ) (seen : SeenFrame) (f : Frame) → frame_seen seconds seen ≡ Some f → Told seconds seen f
told seconds OtherFrame f e = absurd (none-some f e)
told seconds CutFrame f e = absurd (none-some f e)
told seconds (OsiFrame to from []) f e = absurd (none-some f e)
told seconds (OsiFrame to from (x ∷ xs)) f e =
    let g : Frame = record { seconds = seconds; to = to; from = from; pdu = x ∷ xs } in
    subst (λ (h : Frame). Told seconds (OsiFrame to from (x ∷ xs)) h) (same_Some g f e)
    (record { seconds_is = refl; seen_is = refl; some = omega arith })

all_seen : (P : Frame → Type 0) (o : Option Frame) (fs : List Frame) → ((f : Frame) → o ≡ Some f → P f) → AllByRecursion P fs
    → AllByRecursion P (cons_option o fs)
all_seen P None fs first others = others
all_seen P (Some f) fs first others = (first f refl, others)

is_frame : (c : Captured) → IsCaptured c → (f : Frame) → frame_seen c.seconds (seen_in c.octets) ≡ Some f → IsFrame f
is_frame c is f e =
    let t = told c.seconds (seen_in c.octets) f e in
    let fits = is.seconds in
    let same = t.seconds_is in
    record { seconds = omega arith; osi = seen_is_osi c.octets f.to f.from f.pdu t.seen_is; some = t.some }

pub frames_are_frames : (records : List Captured) → AllByRecursion IsCaptured records → AllByRecursion IsFrame (frames_in records)
frames_are_frames [] are = tt
frames_are_frames (c ∷ cs) are =
    all_seen IsFrame (frame_seen c.seconds (seen_in c.octets)) (frames_in cs) (is_frame c are.0) (frames_are_frames cs are.1)

-- ---- octets

pub bytes_in_front : (xs ys : List ℕ) → IsBytes (xs ++ ys) → IsBytes xs
bytes_in_front xs ys bytes = λ i. elim (cases_lt i (length xs)) [
  | inl within ↦ let byte = bytes i in omega (arith, get_or_append_left xs ys 0 i within)
  | inr past ↦ omega (arith, get_or_past xs i 0 past)
]

pub bytes_behind : (xs ys : List ℕ) → IsBytes (xs ++ ys) → IsBytes ys
bytes_behind xs ys bytes = λ i. let byte = bytes (length xs + i) in omega (arith, get_or-append-add xs ys i 0)

pub captured_bytes : (order : Order) (c : Captured) → IsBytes (captured_octets order c) → IsBytes c.octets
captured_bytes order c bytes =
    bytes_behind (number order 4 c.original) c.octets
    (bytes_behind (number order 4 (length c.octets)) _
    (bytes_behind (number order 4 c.fraction) _ (bytes_behind (number order 4 c.seconds) _ bytes)))

has_bytes : (c : Captured) → IsBytes c.octets → (f : Frame) → frame_seen c.seconds (seen_in c.octets) ≡ Some f → HasBytes f
has_bytes c bytes f e =
    let t = told c.seconds (seen_in c.octets) f e in
    let are = seen_are_bytes c.octets f.to f.from f.pdu bytes t.seen_is in
    record { to = are.to_bytes; from = are.from_bytes; pdu = are.pdu_bytes }

all_bytes : (order : Order) (records : List Captured) → IsBytes (all_captured order records) → AllByRecursion HasBytes (frames_in records)
all_bytes order [] bytes = tt
all_bytes order (c ∷ cs) bytes =
    let first = captured_bytes order c (bytes_in_front (captured_octets order c) (all_captured order cs) bytes) in
    all_seen HasBytes (frame_seen c.seconds (seen_in c.octets)) (frames_in cs) (has_bytes c first)
    (all_bytes order cs (bytes_behind (captured_octets order c) (all_captured order cs) bytes))

pub frames_are_bytes : (order : Order) (records : List Captured) (file : List ℕ) → Pcap order records file → IsBytes file
    → AllByRecursion HasBytes (frames_in records)
frames_are_bytes order records file h bytes =
    let P : List ℕ → Type 0 = IsBytes in
    all_bytes order records (bytes_behind (header_octets order h.header) (all_captured order records) (subst P h.spelled bytes))
