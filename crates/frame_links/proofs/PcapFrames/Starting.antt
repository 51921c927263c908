-- What a link that plays a file begins with.
use Rattle.std.proofs.Common.{◌≡◌, ℕ, ◌+◌, ◌≤◌, min, inl, inr, List, [], ◌∷◌, ◌++◌, length, take, drop, Option, Some, None, Result, Ok, Err, refl, sym, ap, ◌∙◌, subst, arith, length-append, take-append-drop}
use Rattle.std.specs.Prelude.{MatchResult}
use Rattle.std.specs.Result.{result_ok}
use Rattle.std.proofs.lemmas.Bool.{cases_Bool}
use Rattle.std.proofs.lemmas.List.{append_assoc, drop_at, length-take, take_at}
use Rattle.std.specs.List.{AllByRecursion}
use Rattle.hex.specs.Hex.{IsBytes}
use Rattle.frame_links.specs.declared.pcap_frames.fault.PcapFault.{PcapFault}
use Rattle.frame_links.specs.declared.pcap_frames.order.Order.{Order}
use Rattle.frame_links.specs.PcapFrames.Faults.{IsHeaderFault}
use Rattle.frame_links.specs.PcapFrames.File.{Begins, Captured, IsCaptured, IsHeaderOf, all_captured, captured_octets, header_octets}
use Rattle.frame_links.specs.PcapFrames.InPlace.{first_in, front_record, has_record}
use Rattle.frame_links.specs.PcapFrames.Reading.{Ending, Entire, CutOff, Faulty, IsReadAs}
use Rattle.frame_links.proofs.PcapFrames.AnyOctets.{behind, by_tail}
use Rattle.frame_links.proofs.PcapFrames.FirstRecord.{first_of_laid, in_front}
use Rattle.frame_links.proofs.PcapFrames.HeaderFacts.{length-header_octets, no_fault}
use Rattle.pdus.proofs.ClnpBase.ListSteps.{bytes_of_drop}
use Rattle.frame_links.proofs.PcapFrames.OneReading.{read_once, whole_begins}
use Rattle.frame_links.proofs.PcapFrames.RecordFacts.{Tail, begins_record, no_record}
use Rattle.frame_links.specs.PcapFrames.PlayedFrames.{frames_of}
use Rattle.frame_links.specs.PcapFrames.Playing.{at_first}
use Rattle.frame_links.specs.PcapFrames.Walk.{HeaderTells, IsPlaying, frames_from, gone, records_after}
use Rattle.frame_links.proofs.PcapFrames.Looks.{begins_so, playing}
use Rattle.frame_links.proofs.PcapFrames.Walking.{first_record_is, no_record_is}

-- ---- octets with no header are read as no records

not_begun : (order : Order) (file : List ℕ) (records : List Captured) (rest : List ℕ) → Begins order file records rest
    → HeaderTells file None → ⊥
not_begun order file records rest b (inl short) =
    omega (
      arith,
      ap length b.spelled,
      length-append (header_octets order b.header) (all_captured order records ++ rest),
      length-header_octets order b.header,
    )
not_begun order file records rest b (inr wrong) =
    no_fault (take 24 file) order b.header wrong.0 b.right
    (ap (take 24) b.spelled ∙ take_at (header_octets order b.header) _ 24 (length-header_octets order b.header)) wrong.1

pub none_read : (file : List ℕ) (records : List Captured) (ending : Ending) → HeaderTells file None → IsReadAs file records ending → records ≡ []
none_read file records Entire t h = absurd (not_begun h.0 file records [] (whole_begins h.0 file records h.1) t)
none_read file records (CutOff count) t (inl h) = h.none
none_read file records (CutOff count) t (inr h) = absurd (not_begun h.order file records h.part h.begins t)
none_read file records (Faulty fault) t (inl h) = h.none
none_read file records (Faulty fault) t (inr h) = absurd (not_begun h.order file records (h.part ++ h.rest) h.begins t)

-- ---- octets behind a header

none_first : (order : Order) (xs : List ℕ) (ending : Ending) → IsBytes xs → Tail order xs ending → first_in order xs ≡ None
unfolding first_in
none_first order xs ending bytes tail = elim (cases_Bool (has_record order xs)) [
  | inl there ↦
      let f = in_front order xs bytes there in
      absurd (no_record order xs ending (front_record order xs) _ tail f.captured f.spelled)
  | inr none ↦ rw none refl
]

-- the records that are gone over are those that the octets are laid out of
walked : (order : Order) (records : List Captured) (rest : List ℕ) (ending : Ending) (xs : List ℕ) → IsBytes xs
    → AllByRecursion IsCaptured records → Tail order rest ending → xs ≡ all_captured order records ++ rest
    → records_after order 0 xs ≡ records
walked order [] rest ending xs bytes each tail e =
    no_record_is order xs (none_first order xs ending bytes (subst (λ (ys : List ℕ). Tail order ys ending) (sym e) tail))
walked order (c ∷ cs) rest ending xs bytes each tail e =
    let others = all_captured order cs ++ rest in
    let laid : xs ≡ captured_octets order c ++ others = e ∙ append_assoc (captured_octets order c) (all_captured order cs) rest in
    let first = first_of_laid order xs c others bytes each.0 laid in
    let long = (begins_record order xs c others each.0 laid).size in
    let n = 16 + length c.octets in
    let size : length (captured_octets order c) ≡ n = omega (arith, ap length laid, length-append (captured_octets order c) others) in
    let left : drop n xs ≡ others = ap (drop n) laid ∙ drop_at (captured_octets order c) others n size in
    first_record_is order xs c first
    ∙ ap (λ (rs : List Captured). c ∷ rs) (walked order cs rest ending (drop n xs) (bytes_of_drop xs n bytes) each.1 tail left)

pub all_left : (order : Order) (file : List ℕ) (records : List Captured) (ending : Ending) → IsBytes file → IsHeaderOf order (take 24 file)
    → IsReadAs file records ending → frames_from (Some order) (drop 24 file) ≡ frames_of records
all_left order file records ending bytes h read =
    let xs = drop 24 file in
    let xs_bytes = bytes_of_drop file 24 bytes in
    let t = behind (length xs) order xs (omega arith) xs_bytes in
    let begins : Begins order file t.records t.rest = record {
      header = h.header;
      right = h.right;
      each = t.each;
      spelled =
          sym (take-append-drop 24 file)
          ∙ ap (λ (ys : List ℕ). ys ++ xs) h.spelled
          ∙ ap (λ (ys : List ℕ). header_octets order h.header ++ ys) t.spelled;
    } in
    let same = read_once file t.records records t.ending ending (by_tail order file t.records t.rest t.ending begins t.tail) read in
    ap frames_of (walked order t.records t.rest t.ending xs xs_bytes t.each t.tail t.spelled ∙ same.0)

-- ---- the link

header_long : (order : Order) (file : List ℕ) → IsHeaderOf order (take 24 file) → 24 ≤ length file
header_long order file h = omega (arith, ap length h.spelled, length-header_octets order h.header, length-take 24 file)

-- the link begins behind the header
all_to_come : (file : List ℕ) (order : Option Order) (at : ℕ) → HeaderTells file order → at ≡ min 24 (length file)
    → frames_from order (drop at file) ≡ frames_from order (drop 24 file)
all_to_come file None at t n = refl
all_to_come file (Some order) at t n =
    let long = header_long order file t in
    let behind_header : at ≡ 24 = omega arith in
    ap (λ (k : ℕ). frames_from (Some order) (drop k file)) behind_header

are_read : (file : List ℕ) (order : Option Order) (records : List Captured) (ending : Ending) → IsBytes file → HeaderTells file order
    → IsReadAs file records ending → frames_from order (drop 24 file) ≡ frames_of records
are_read file None records ending bytes t read = ap frames_of (sym (none_read file records ending t read))
are_read file (Some order) records ending bytes t read = all_left order file records ending bytes t read

pub begun : (file : List ℕ) (order : Option Order) (at : ℕ) (records : List Captured) (ending : Ending) → IsBytes file → HeaderTells file order
    → at ≡ min 24 (length file) → IsReadAs file records ending
    → playing (frames_from order (drop at file)) (gone (frames_from order (drop 24 file)) (frames_from order (drop at file))) 0
    ≡ at_first (frames_of records)
begun file order at records ending bytes t n read =
    begins_so (frames_from order (drop 24 file)) (frames_from order (drop at file)) (frames_of records)
    (all_to_come file order at t n) (are_read file order records ending bytes t read)

pub begins_playing : (file : List ℕ) (order : Option Order) (at size : ℕ) → HeaderTells file order → at ≡ min 24 (length file) → size ≡ length file
    → IsPlaying (frames_from order (drop 24 file)) (frames_from order (drop at file)) at size 0
begins_playing file order at size t n s =
    record { within = omega arith; before = []; whole = sym (all_to_come file order at t n); last = λ some. absurd (omega arith) }

-- what is told where the header was judged
pub told_by : (file : List ℕ) (judged : Result Order PcapFault)
    → MatchResult judged (λ order. IsHeaderOf order (take 24 file)) (λ fault. IsHeaderFault (take 24 file) fault)
    → HeaderTells file (result_ok judged)
told_by file (Ok order) h = h
told_by file (Err fault) h = inr (fault, h)
