-- Octets that follow others, and what is so of all records that are read.
use Rattle.std.proofs.Common.{◌≡◌, ℕ, inl, inr, List, [], ◌∷◌, ◌++◌, length, refl, sym, ap, ◌∙◌, subst, arith}
use Rattle.std.proofs.lemmas.List.{append_assoc, append-nil}
use Rattle.std.specs.List.{AllByRecursion}
use Rattle.hex.specs.Hex.{IsBytes}
use Rattle.pdus.proofs.ClnpBase.Lists.{AllByRecursion-append}
use Rattle.frame_links.specs.declared.pcap_frames.order.Order.{Order}
use Rattle.frame_links.specs.PcapFrames.File.{Begins, Captured, IsCaptured, all_captured, captured_octets, header_octets}
use Rattle.frame_links.specs.PcapFrames.Reading.{Ending, Entire, CutOff, Faulty, IsReadAs}
use Rattle.frame_links.proofs.PcapFrames.AnyOctets.{any_read, behind, by_tail}
use Rattle.frame_links.proofs.PcapFrames.FramesSeen.{bytes_behind, bytes_in_front, captured_bytes}
use Rattle.frame_links.proofs.PcapFrames.OneReading.{fault_stays, more_behind, whole_begins}

-- ---- what follows

-- octets are read so that begin with these records
abbrev pub Follows : List ℕ → List Captured → Type 0
Follows octets records = (later : List Captured) × ((other : Ending) × IsReadAs octets (records ++ later) other)

all_captured-append : (order : Order) (records later : List Captured) (rest : List ℕ)
    → all_captured order records ++ (all_captured order later ++ rest) ≡ all_captured order (records ++ later) ++ rest
all_captured-append order [] later rest = refl
all_captured-append order (c ∷ cs) later rest =
    append_assoc (captured_octets order c) (all_captured order cs) (all_captured order later ++ rest)
    ∙ ap (λ (xs : List ℕ). captured_octets order c ++ xs) (all_captured-append order cs later rest)
    ∙ sym (append_assoc (captured_octets order c) (all_captured order (cs ++ later)) rest)

-- records behind records
begins_later : (order : Order) (octets : List ℕ) (records : List Captured) (rest : List ℕ) → Begins order octets records rest
    → IsBytes rest → Follows octets records
begins_later order octets records rest b bytes =
    let t = behind (length rest) order rest (omega arith) bytes in
    let more : Begins order octets (records ++ t.records) t.rest = record {
      header = b.header;
      right = b.right;
      each = AllByRecursion-append IsCaptured records t.records b.each t.each;
      spelled =
          b.spelled
          ∙ ap (λ (xs : List ℕ). header_octets order b.header ++ (all_captured order records ++ xs)) t.spelled
          ∙ ap (λ (xs : List ℕ). header_octets order b.header ++ xs) (all_captured-append order records t.records t.rest);
    } in
    (t.records, (t.ending, by_tail order octets (records ++ t.records) t.rest t.ending more t.tail))

rest_bytes : (order : Order) (octets : List ℕ) (records : List Captured) (rest : List ℕ) → Begins order octets records rest
    → IsBytes octets → IsBytes rest
rest_bytes order octets records rest b bytes =
    let P : List ℕ → Type 0 = IsBytes in
    bytes_behind (all_captured order records) rest
    (bytes_behind (header_octets order b.header) (all_captured order records ++ rest) (subst P b.spelled bytes))

begins_and_more : (order : Order) (octets more : List ℕ) (records : List Captured) (rest : List ℕ) → Begins order octets records rest
    → IsBytes (octets ++ more) → Follows (octets ++ more) records
begins_and_more order octets more records rest b bytes =
    let k = more_behind order octets more rest records b in
    begins_later order (octets ++ more) records (rest ++ more) k (rest_bytes order (octets ++ more) records (rest ++ more) k bytes)

pub follows : (octets more : List ℕ) (records : List Captured) (ending : Ending) → IsBytes (octets ++ more)
    → IsReadAs octets records ending → Follows (octets ++ more) records
follows octets more records Entire bytes h =
    begins_and_more h.0 octets more records [] (whole_begins h.0 octets records h.1) bytes
follows octets more records (CutOff count) bytes (inl h) =
    subst (λ (rs : List Captured). Follows (octets ++ more) rs) (sym h.none) (any_read (octets ++ more) bytes)
follows octets more records (CutOff count) bytes (inr h) = begins_and_more h.order octets more records h.part h.begins bytes
follows octets more records (Faulty fault) bytes h = (
  [],
  (
    Faulty fault,
    subst (λ (rs : List Captured). IsReadAs (octets ++ more) rs (Faulty fault)) (sym (append-nil records))
        (fault_stays octets more records fault h),
  ),
)

-- ---- all records

abbrev HasOctets : Captured → Type 0
HasOctets c = IsBytes c.octets

no_records : (P : Captured → Type 0) (records : List Captured) → records ≡ [] → AllByRecursion P records
no_records P records none = subst (AllByRecursion P) (sym none) tt

pub read_fits : (octets : List ℕ) (records : List Captured) (ending : Ending) → IsReadAs octets records ending
    → AllByRecursion IsCaptured records
read_fits octets records Entire h = let p = h.1 in p.each
read_fits octets records (CutOff count) (inl h) = no_records IsCaptured records h.none
read_fits octets records (CutOff count) (inr h) = let b = h.begins in b.each
read_fits octets records (Faulty fault) (inl h) = no_records IsCaptured records h.none
read_fits octets records (Faulty fault) (inr h) = let b = h.begins in b.each

all_octets : (order : Order) (records : List Captured) → IsBytes (all_captured order records) → AllByRecursion HasOctets records
all_octets order [] bytes = tt
all_octets order (c ∷ cs) bytes = (
  captured_bytes order c (bytes_in_front (captured_octets order c) (all_captured order cs) bytes),
  all_octets order cs (bytes_behind (captured_octets order c) (all_captured order cs) bytes),
)

begins_bytes : (order : Order) (octets : List ℕ) (records : List Captured) (rest : List ℕ) → Begins order octets records rest
    → IsBytes octets → AllByRecursion HasOctets records
begins_bytes order octets records rest b bytes =
    let P : List ℕ → Type 0 = IsBytes in
    all_octets order records
    (bytes_in_front (all_captured order records) rest
    (bytes_behind (header_octets order b.header) (all_captured order records ++ rest) (subst P b.spelled bytes)))

pub read_bytes : (octets : List ℕ) (records : List Captured) (ending : Ending) → IsBytes octets → IsReadAs octets records ending
    → AllByRecursion (λ c. IsBytes c.octets) records
read_bytes octets records Entire bytes h = begins_bytes h.0 octets records [] (whole_begins h.0 octets records h.1) bytes
read_bytes octets records (CutOff count) bytes (inl h) = no_records HasOctets records h.none
read_bytes octets records (CutOff count) bytes (inr h) = begins_bytes h.order octets records h.part h.begins bytes
read_bytes octets records (Faulty fault) bytes (inl h) = no_records HasOctets records h.none
read_bytes octets records (Faulty fault) bytes (inr h) = begins_bytes h.order octets records (h.part ++ h.rest) h.begins bytes
