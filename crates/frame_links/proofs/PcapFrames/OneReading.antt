-- Octets are read in one way.
use Rattle.std.proofs.Common.{◌≡◌, ℕ, ◌<◌, ◌≤◌, ◌⊎◌, inl, inr, List, [], ◌++◌, length, refl, sym, ap, ◌∙◌, subst, arith, length-append}
use Rattle.std.proofs.lemmas.List.{append_assoc, append-nil}
use Rattle.frame_links.specs.declared.pcap_frames.fault.PcapFault.{PcapFault}
use Rattle.frame_links.specs.declared.pcap_frames.order.Order.{Order}
use Rattle.frame_links.specs.PcapFrames.Faults.{IsHeaderFault}
use Rattle.frame_links.specs.PcapFrames.File.{Begins, Captured, Pcap, all_captured, header_octets}
use Rattle.frame_links.specs.PcapFrames.Reading.{Ending, Entire, CutOff, Faulty, IsFaultyHeader, IsReadAs}
use Rattle.frame_links.proofs.PcapFrames.HeaderFacts.{length-header_octets, no_fault, one_fault, same_header}
use Rattle.frame_links.proofs.PcapFrames.RecordFacts.{Tail, same_fronts, same_records}

-- ---- three ways to be read

-- less than a header
record EndsInHeader (octets : List ℕ) (records : List Captured) (ending : Ending) : Type 0 where
  pub none : records ≡ []
  pub few : length octets < 24
  pub told : ending ≡ CutOff (length octets)

-- a header that is wrong
record FailsInHeader (octets : List ℕ) (records : List Captured) (ending : Ending) : Type 0 where
  pub fault : PcapFault
  pub faulty : IsFaultyHeader octets records fault
  pub told : ending ≡ Faulty fault

-- a header, records and what follows
record EndsBehind (octets : List ℕ) (records : List Captured) (ending : Ending) : Type 0 where
  pub order : Order
  pub rest : List ℕ
  pub begins : Begins order octets records rest
  pub tail : Tail order rest ending

abbrev Form : List ℕ → List Captured → Ending → Type 0
Form octets records ending =
    EndsInHeader octets records ending ⊎ (FailsInHeader octets records ending ⊎ EndsBehind octets records ending)

pub whole_begins : (order : Order) (octets : List ℕ) (records : List Captured) → Pcap order records octets → Begins order octets records []
whole_begins order octets records h =
    record {
      header = h.header;
      right = h.right;
      each = h.each;
      spelled = h.spelled ∙ ap (λ (xs : List ℕ). header_octets order h.header ++ xs) (sym (append-nil (all_captured order records)));
    }

form_of : (octets : List ℕ) (records : List Captured) (ending : Ending) → IsReadAs octets records ending → Form octets records ending
form_of octets records Entire h =
    inr (inr (record { order = h.0; rest = []; begins = whole_begins h.0 octets records h.1; tail = refl }))
form_of octets records (CutOff count) (inl h) = inl (record { none = h.none; few = h.few; told = ap CutOff h.counted })
form_of octets records (CutOff count) (inr h) =
    inr (inr (record { order = h.order; rest = h.part; begins = h.begins; tail = record { partial = h.partial; some = h.some; counted = h.counted } }))
form_of octets records (Faulty fault) (inl h) = inr (inl (record { fault = fault; faulty = h; told = refl }))
form_of octets records (Faulty fault) (inr h) =
    inr (inr (record {
      order = h.order;
      rest = h.part ++ h.rest;
      begins = h.begins;
      tail = record { captured = h.captured; part = h.part; more = h.rest; spelled = refl; wrong = h.wrong; told = h.told };
    }))

-- ---- no two of them

long_with_header : (octets : List ℕ) (records : List Captured) (ending : Ending) → EndsBehind octets records ending → 24 ≤ length octets
long_with_header octets records ending h =
    let b = h.begins in
    let front = header_octets h.order b.header in
    let behind = all_captured h.order records ++ h.rest in
    omega (arith, ap length b.spelled, length-append front behind, length-header_octets h.order b.header)

long_with_fault : (octets : List ℕ) (records : List Captured) (ending : Ending) → FailsInHeader octets records ending → 24 ≤ length octets
long_with_fault octets records ending h =
    let f = h.faulty in
    let whole = f.whole in
    omega (arith, ap length f.spelled, length-append f.front f.rest)

fault_or_header : (octets : List ℕ) (records others : List Captured) (e f : Ending) → FailsInHeader octets records e → EndsBehind octets others f → ⊥
fault_or_header octets records others e f h k =
    let w = h.faulty in
    let b = k.begins in
    let same = same_fronts w.front (header_octets k.order b.header) w.rest _ (w.whole ∙ sym (length-header_octets k.order b.header))
    (sym w.spelled ∙ b.spelled) in
    no_fault w.front k.order b.header h.fault b.right same.0 w.wrong

abbrev Same : List Captured → List Captured → Ending → Ending → Type 0
Same records others e f = (records ≡ others) × (e ≡ f)

same_faults : (octets : List ℕ) (records others : List Captured) (e f : Ending) → FailsInHeader octets records e → FailsInHeader octets others f
    → Same records others e f
same_faults octets records others e f h k =
    let v = h.faulty in
    let w = k.faulty in
    let same = same_fronts v.front w.front v.rest w.rest (v.whole ∙ sym w.whole) (sym v.spelled ∙ w.spelled) in
    let right = subst (λ (front : List ℕ). IsHeaderFault front h.fault) same.0 v.wrong in (
      v.none ∙ sym w.none,
      h.told ∙ ap Faulty (one_fault w.front h.fault k.fault right w.wrong) ∙ sym k.told,
    )

same_order_behind : (order other : Order) (octets : List ℕ) (records others : List Captured) (r s : List ℕ) (e f : Ending)
    → Begins order octets records r → Begins other octets others s → Tail order r e → Tail other s f
    → (order ≡ other) × Same records others e f
same_order_behind order other octets records others r s e f b k t u =
    let header = same_header order other b.header k.header _ _ b.right.fits k.right.fits (sym b.spelled ∙ k.spelled) in
    let moved = subst (λ (o : Order). Tail o r e) header.orders t in
    let laid = subst (λ (o : Order). all_captured o records ++ r ≡ all_captured other others ++ s) header.orders header.rests in
    let same = same_records other records others r s e f b.each k.each moved u laid in
    (header.orders, (same.lists, same.endings))

one_form : (octets : List ℕ) (records others : List Captured) (e f : Ending) → Form octets records e → Form octets others f
    → Same records others e f
one_form octets records others e f (inl h) (inl k) = (h.none ∙ sym k.none, h.told ∙ sym k.told)
one_form octets records others e f (inl h) (inr (inl k)) = let few = h.few in absurd (omega (arith, long_with_fault octets others f k))
one_form octets records others e f (inl h) (inr (inr k)) = let few = h.few in absurd (omega (arith, long_with_header octets others f k))
one_form octets records others e f (inr (inl h)) (inl k) = let few = k.few in absurd (omega (arith, long_with_fault octets records e h))
one_form octets records others e f (inr (inl h)) (inr (inl k)) = same_faults octets records others e f h k
one_form octets records others e f (inr (inl h)) (inr (inr k)) = absurd (fault_or_header octets records others e f h k)
one_form octets records others e f (inr (inr h)) (inl k) = let few = k.few in absurd (omega (arith, long_with_header octets records e h))
one_form octets records others e f (inr (inr h)) (inr (inl k)) = absurd (fault_or_header octets others records f e k h)
one_form octets records others e f (inr (inr h)) (inr (inr k)) =
    (same_order_behind h.order k.order octets records others h.rest k.rest e f h.begins k.begins h.tail k.tail).1

pub read_once : (octets : List ℕ) (records others : List Captured) (ending other : Ending)
    → IsReadAs octets records ending → IsReadAs octets others other → (records ≡ others) × (ending ≡ other)
read_once octets records others ending other h k =
    one_form octets records others ending other (form_of octets records ending h) (form_of octets others other k)

pub one_file : (file : List ℕ) (order other : Order) (records others : List Captured)
    → Pcap order records file → Pcap other others file → (order ≡ other) × (records ≡ others)
one_file file order other records others h k =
    let same = same_order_behind order other file records others [] [] Entire Entire
    (whole_begins order file records h) (whole_begins other file others k) refl refl in
    (same.0, same.1.0)

-- ---- a fault stays

pub more_behind : (order : Order) (octets more rest : List ℕ) (records : List Captured) → Begins order octets records rest
    → Begins order (octets ++ more) records (rest ++ more)
more_behind order octets more rest records b =
    record {
      header = b.header;
      right = b.right;
      each = b.each;
      spelled =
          ap (λ (xs : List ℕ). xs ++ more) b.spelled
          ∙ append_assoc (header_octets order b.header) (all_captured order records ++ rest) more
          ∙ ap (λ (xs : List ℕ). header_octets order b.header ++ xs) (append_assoc (all_captured order records) rest more);
    }

pub fault_stays : (octets more : List ℕ) (records : List Captured) (fault : PcapFault)
    → IsReadAs octets records (Faulty fault) → IsReadAs (octets ++ more) records (Faulty fault)
fault_stays octets more records fault (inl h) =
    inl (record {
      none = h.none;
      front = h.front;
      rest = h.rest ++ more;
      spelled = ap (λ (xs : List ℕ). xs ++ more) h.spelled ∙ append_assoc h.front h.rest more;
      whole = h.whole;
      wrong = h.wrong;
    })
fault_stays octets more records fault (inr h) =
    let b = more_behind h.order octets more (h.part ++ h.rest) records h.begins in
    inr (record {
      order = h.order;
      captured = h.captured;
      part = h.part;
      rest = h.rest ++ more;
      begins = subst (λ (rest : List ℕ). Begins h.order (octets ++ more) records rest) (append_assoc h.part h.rest more) b;
      wrong = h.wrong;
      told = h.told;
    })

faulty_not_entire : (fault : PcapFault) → Faulty fault ≡ Entire → ⊥
faulty_not_entire fault e = cc

pub front_has_no_fault : (front rest : List ℕ) (records others : List Captured) (fault : PcapFault)
    → IsReadAs (front ++ rest) records Entire → IsReadAs front others (Faulty fault) → ⊥
front_has_no_fault front rest records others fault h k =
    let same = read_once (front ++ rest) others records (Faulty fault) Entire (fault_stays front rest others fault k) h in
    faulty_not_entire fault same.1
