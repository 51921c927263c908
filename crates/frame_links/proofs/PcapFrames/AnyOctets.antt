-- Whatever octets are read, and end in some way.
use Rattle.std.proofs.Common.{◌≡◌, ℕ, zero, suc, ◌+◌, ◌^◌, ◌%◌, ◌<◌, ◌≤◌, ◌⊎◌, inl, inr, Option, Some, None, List, [], ◌∷◌, ◌++◌, length, take, drop, refl, sym, ap, ◌∙◌, subst, arith, length-drop, length-take-le, take-append-drop}
use Rattle.std.proofs.lemmas.Bool.{cases_eq, cases_lt}
use Rattle.std.proofs.lemmas.List.{append_assoc, nil_from_length}
use Rattle.std.specs.List.{AllByRecursion}
use Rattle.hex.specs.Hex.{IsBytes}
use Rattle.pdus.proofs.ClnpBase.ListSteps.{bytes_of_drop, bytes_of_take}
use Rattle.frame_links.specs.declared.pcap_frames.fault.PcapFault.{PcapFault}
use Rattle.frame_links.specs.declared.pcap_frames.fault.PcapFault.TheVariants.{Magic, Version, LinkType, RecordLength}
use Rattle.frame_links.specs.declared.pcap_frames.order.Order.{Order}
use Rattle.frame_links.specs.PcapFrames.Faults.{IsHeaderFault}
use Rattle.frame_links.specs.PcapFrames.File.{Begins, Captured, IsCaptured, IsHeaderOf, all_captured, captured_octets, header_octets, most_captured}
use Rattle.frame_links.specs.PcapFrames.Magic.{order_told}
use Rattle.frame_links.specs.PcapFrames.Numbers.{value}
use Rattle.frame_links.specs.PcapFrames.Reading.{Ending, Entire, CutOff, Faulty, IsPart, IsReadAs, captured_length}
use Rattle.frame_links.specs.PcapFrames.Stages.{IsWhole, captured_in}
use Rattle.frame_links.proofs.PcapFrames.Endings.{begins_whole}
use Rattle.frame_links.proofs.PcapFrames.HeaderReading.{HasMagic, magic_told, no_magic, none_told, other_link, other_version, right_header}
use Rattle.frame_links.proofs.PcapFrames.RecordFacts.{Tail}
use Rattle.frame_links.proofs.PcapFrames.Steps.{length_stays, other_length, whole_is_captured, whole_spelled}

-- ---- the header

abbrev Judged : List ℕ → Type 0
Judged octets = ((order : Order) × IsHeaderOf order octets) ⊎ ((fault : PcapFault) × IsHeaderFault octets fault)

by_link : (order : Order) (octets : List ℕ) → HasMagic order octets → value order 2 (drop 4 octets) ≡ 2 → value order 2 (drop 6 octets) ≡ 4 → Judged octets
by_link order octets m major minor = elim (cases_eq (value order 4 (drop 20 octets) % 2 ^ 16) 1) [
  | inl ethernet ↦ inl (order, right_header order octets m major minor ethernet)
  | inr other ↦ inr (LinkType (value order 4 (drop 20 octets)), other_link order octets m major minor other)
]

by_version : (order : Order) (octets : List ℕ) → HasMagic order octets → Judged octets
by_version order octets m = elim (cases_eq (value order 2 (drop 4 octets)) 2) [
  | inl major ↦ elim (cases_eq (value order 2 (drop 6 octets)) 4) [
    | inl minor ↦ by_link order octets m major minor
    | inr other ↦ inr (Version (value order 2 (drop 4 octets)) (value order 2 (drop 6 octets)), other_version order octets m (λ both. other both.1))
  ]
  | inr other ↦ inr (Version (value order 2 (drop 4 octets)) (value order 2 (drop 6 octets)), other_version order octets m (λ both. other both.0))
]

judged : (octets : List ℕ) → IsBytes octets → length octets ≡ 24 → Judged octets
judged octets bytes whole = by_told (order_told octets) refl
  where
    by_told : (told : Option Order) → order_told octets ≡ told → Judged octets
    by_told None e = inr (Magic, no_magic octets (none_told octets e))
    by_told (Some order) e =
        let m = magic_told octets order e in
        by_version order octets (record { bytes = bytes; whole = whole; nanoseconds = m.0; tells = m.1 })

-- ---- records

pub record Behind (order : Order) (octets : List ℕ) : Type 0 where
  pub records : List Captured
  pub rest : List ℕ
  pub ending : Ending
  pub each : AllByRecursion IsCaptured records
  pub spelled : octets ≡ all_captured order records ++ rest
  pub tail : Tail order rest ending

cut_behind : (order : Order) (octets : List ℕ) → 0 < length octets → IsPart order octets → Behind order octets
cut_behind order octets some partial =
    record {
      records = [];
      rest = octets;
      ending = CutOff (length octets);
      each = tt;
      spelled = refl;
      tail = record { partial = partial; some = some; counted = refl };
    }

-- the captured length is in the first twelve octets
pub told_in_front : (order : Order) (octets : List ℕ) (n : ℕ) → 12 ≤ n → n ≤ length octets → captured_length order octets ≡ captured_length order (take n octets)
told_in_front order octets n least most =
    ap (captured_length order) (sym (take-append-drop n octets))
    ∙ length_stays order (take n octets) (drop n octets) (omega (arith, length-take-le n octets most))

fault_behind : (order : Order) (octets : List ℕ) → IsBytes octets → 12 ≤ length octets → most_captured < captured_length order octets → Behind order octets
fault_behind order octets bytes long many =
    let front = take 12 octets in
    let told = told_in_front order octets 12 (omega arith) long in
    record {
      records = [];
      rest = octets;
      ending = Faulty (RecordLength (captured_length order front));
      each = tt;
      spelled = refl;
      tail = record {
        captured = captured_length order front;
        part = front;
        more = drop 12 octets;
        spelled = sym (take-append-drop 12 octets);
        wrong = other_length order front (bytes_of_take octets 12 bytes) (length-take-le 12 octets long) (omega arith);
        told = refl;
      };
    }

first_behind : (order : Order) (octets : List ℕ) (n : ℕ) → IsBytes octets → n ≡ 16 + captured_length order octets → n ≤ length octets
    → captured_length order octets ≤ most_captured → Behind order (drop n octets) → Behind order octets
first_behind order octets n bytes size long few behind =
    let front = take n octets in
    let front_bytes = bytes_of_take octets n bytes in
    let told = told_in_front order octets n (omega arith) long in
    let front_size = length-take-le n octets long in
    let whole : IsWhole order front = record { few = omega arith; size = omega arith } in
    let c = captured_in order front in
    record {
      records = c ∷ behind.records;
      rest = behind.rest;
      ending = behind.ending;
      each = (whole_is_captured order front front_bytes whole, behind.each);
      spelled =
          sym (take-append-drop n octets)
          ∙ ap (λ (xs : List ℕ). xs ++ drop n octets) (whole_spelled order front front_bytes whole)
          ∙ ap (λ (xs : List ℕ). captured_octets order c ++ xs) behind.spelled
          ∙ sym (append_assoc (captured_octets order c) (all_captured order behind.records) behind.rest);
      tail = behind.tail;
    }

none_behind : (order : Order) (octets : List ℕ) → length octets ≡ 0 → Behind order octets
none_behind order octets none =
    record { records = []; rest = octets; ending = Entire; each = tt; spelled = refl; tail = nil_from_length octets none }

pub behind : (fuel : ℕ) (order : Order) (octets : List ℕ) → length octets ≤ fuel → IsBytes octets → Behind order octets
behind zero order octets most bytes = none_behind order octets (omega arith)
behind (suc fuel) order octets most bytes = elim (cases_lt 0 (length octets)) [
  | inr none ↦ none_behind order octets (omega arith)
  | inl some ↦ elim (cases_lt (length octets) 12) [
    | inl short ↦ cut_behind order octets some (record { few = λ long. absurd (omega arith); short = λ long. absurd (omega arith) })
    | inr long ↦ elim (cases_lt most_captured (captured_length order octets)) [
      | inl many ↦ fault_behind order octets bytes long many
      | inr few ↦ elim (cases_lt (length octets) (16 + captured_length order octets)) [
        | inl short ↦ cut_behind order octets some (record { few = λ _. few; short = λ _. short })
        | inr whole ↦
            first_behind order octets (16 + captured_length order octets) bytes refl whole few
            (behind fuel order (drop (16 + captured_length order octets) octets)
            (omega (arith, length-drop (16 + captured_length order octets) octets)) (bytes_of_drop octets (16 + captured_length order octets) bytes))
      ]
    ]
  ]
]

-- ---- all octets

abbrev pub Read : List ℕ → Type 0
Read octets = (records : List Captured) × ((ending : Ending) × IsReadAs octets records ending)

pub by_tail : (order : Order) (octets : List ℕ) (records : List Captured) (rest : List ℕ) (ending : Ending) → Begins order octets records rest → Tail order rest ending
    → IsReadAs octets records ending
by_tail order octets records rest Entire b t =
    (order, begins_whole order octets records (subst (λ (xs : List ℕ). Begins order octets records xs) t b))
by_tail order octets records rest (CutOff count) b t =
    inr (record { order = order; part = rest; begins = b; partial = t.partial; some = t.some; counted = t.counted })
by_tail order octets records rest (Faulty fault) b t =
    inr (record {
      order = order;
      captured = t.captured;
      part = t.part;
      rest = t.more;
      begins = subst (λ (xs : List ℕ). Begins order octets records xs) t.spelled b;
      wrong = t.wrong;
      told = t.told;
    })

pub any_read : (octets : List ℕ) → IsBytes octets → Read octets
any_read octets bytes = elim (cases_lt (length octets) 24) [
  | inl short ↦ ([], (CutOff (length octets), inl (record { none = refl; few = short; counted = refl })))
  | inr long ↦ elim (judged (take 24 octets) (bytes_of_take octets 24 bytes) (length-take-le 24 octets long)) [
    | inl right ↦
        let rest = behind (length (drop 24 octets)) right.0 (drop 24 octets) (omega arith) (bytes_of_drop octets 24 bytes) in
        let begins : Begins right.0 octets rest.records rest.rest = record {
          header = right.1.header;
          right = right.1.right;
          each = rest.each;
          spelled =
              sym (take-append-drop 24 octets)
              ∙ ap (λ (xs : List ℕ). xs ++ drop 24 octets) right.1.spelled
              ∙ ap (λ (xs : List ℕ). header_octets right.0 right.1.header ++ xs) rest.spelled;
        } in
        (rest.records, (rest.ending, by_tail right.0 octets rest.records rest.rest rest.ending begins rest.tail))
    | inr wrong ↦ (
      [],
      (
        Faulty wrong.0,
        inl (record {
          none = refl;
          front = take 24 octets;
          rest = drop 24 octets;
          spelled = sym (take-append-drop 24 octets);
          whole = length-take-le 24 octets long;
          wrong = wrong.1;
        }),
      ),
    )
  ]
]
