-- What a reader stands for after it took some octets.
use Rattle.std.proofs.Common.{◌≡◌, ℕ, ◌+◌, ◌-◌, ◌<◌, ◌≤◌, List, [], ◌∷◌, ◌++◌, length, take, drop, min, length-take-le, refl, sym, ap, ◌∙◌, subst, arith, inl, inr, length-append}
use Rattle.std.proofs.lemmas.List.{append_assoc, append-nil, drop-append-le, drop_all, length-drop}
use Rattle.hex.specs.Hex.{IsBytes}
use Rattle.pdus.proofs.ClnpBase.Lists.{AllByRecursion-push}
use Rattle.pdus.proofs.ClnpBase.ListSteps.{bytes_of_drop}
use Rattle.frame_links.specs.declared.pcap_frames.fault.PcapFault.{PcapFault}
use Rattle.frame_links.specs.declared.pcap_frames.order.Order.{Order}
use Rattle.frame_links.specs.PcapFrames.Faults.{HasOtherLength, IsHeaderFault}
use Rattle.frame_links.specs.PcapFrames.File.{Begins, Captured, IsCaptured, all_captured, captured_octets, header_octets, most_captured}
use Rattle.frame_links.specs.PcapFrames.Numbers.{number, value}
use Rattle.frame_links.specs.PcapFrames.Reading.{InHeader, InRecord, AtRecord, Stopped, IsPart, Takes, captured_length}
use Rattle.frame_links.specs.declared.pcap_frames.stage.Stage.{Stage}
use Rattle.frame_links.specs.declared.pcap_frames.stage.Stage.TheVariants.{Header, Part, Whole, Broken}
use Rattle.frame_links.specs.PcapFrames.Stages.{HasTooGreat, IsByLength, IsWhole, captured_in, reading_of}
use Rattle.frame_links.proofs.PcapFrames.NumberFacts.{four_behind, value-append, value-fits}
use Rattle.frame_links.proofs.PcapFrames.OneReading.{more_behind}

-- ---- the header

pub takes_wrong_header : (fault : PcapFault) (part more new : List ℕ) → new ≡ part ++ more → length new ≡ 24 → IsHeaderFault new fault
    → Takes (InHeader part) more (Stopped fault)
takes_wrong_header fault part more new e whole wrong taken records h =
    inl (record {
      none = append-nil records ∙ h.none;
      front = new;
      rest = [];
      spelled = ap (λ (xs : List ℕ). xs ++ more) h.same ∙ sym e ∙ sym (append-nil new);
      whole = whole;
      wrong = wrong;
    })

-- ---- octets of a record

pub other_length : (order : Order) (xs : List ℕ) → IsBytes xs → length xs ≡ 12 → most_captured < captured_length order xs
    → HasOtherLength order xs (captured_length order xs)
other_length order xs bytes whole many =
    let one = four_behind order xs 0 bytes (omega arith) in
    let two = four_behind order xs 4 bytes (omega arith) in
    let three = four_behind order xs 8 bytes (omega arith) in
    let none : drop 12 xs ≡ [] = drop_all 12 xs (omega arith) in
    let fits = value-fits order 4 (drop 8 xs) (bytes_of_drop xs 8 bytes) in
    record {
      seconds = value order 4 xs;
      fraction = value order 4 (drop 4 xs);
      spelled =
          one
          ∙ ap (λ (rest : List ℕ). number order 4 (value order 4 xs) ++ rest)
          (two
          ∙ ap (λ (rest : List ℕ). number order 4 (value order 4 (drop 4 xs)) ++ rest)
          (three
          ∙ ap (λ (rest : List ℕ). number order 4 (captured_length order xs) ++ rest) none
          ∙ append-nil (number order 4 (captured_length order xs))));
      fits = omega arith;
      many = many;
    }

pub whole_spelled : (order : Order) (xs : List ℕ) → IsBytes xs → IsWhole order xs → xs ≡ captured_octets order (captured_in order xs)
whole_spelled order xs bytes whole =
    let size = whole.size in
    let one = four_behind order xs 0 bytes (omega arith) in
    let two = four_behind order xs 4 bytes (omega arith) in
    let three = four_behind order xs 8 bytes (omega arith) in
    let four = four_behind order xs 12 bytes (omega arith) in
    let told : captured_length order xs ≡ length (drop 16 xs) = omega (arith, length-drop 16 xs) in
    one
    ∙ ap (λ (rest : List ℕ). number order 4 (value order 4 xs) ++ rest)
    (two
    ∙ ap (λ (rest : List ℕ). number order 4 (value order 4 (drop 4 xs)) ++ rest)
    (three
    ∙ ap (λ (rest : List ℕ). number order 4 (captured_length order xs) ++ rest) four
    ∙ ap (λ (n : ℕ). number order 4 n ++ (number order 4 (value order 4 (drop 12 xs)) ++ drop 16 xs)) told))

pub whole_is_captured : (order : Order) (xs : List ℕ) → IsBytes xs → IsWhole order xs → IsCaptured (captured_in order xs)
whole_is_captured order xs bytes whole =
    let size = whole.size in
    let few = whole.few in
    let seconds = value-fits order 4 xs bytes in
    let fraction = value-fits order 4 (drop 4 xs) (bytes_of_drop xs 4 bytes) in
    let original = value-fits order 4 (drop 12 xs) (bytes_of_drop xs 12 bytes) in
    record {
      seconds = omega arith;
      fraction = omega arith;
      original = omega arith;
      few = omega (arith, length-drop 16 xs);
    }

-- ---- records

-- a captured length that is there stays
pub length_stays : (order : Order) (part more : List ℕ) → 12 ≤ length part → captured_length order (part ++ more) ≡ captured_length order part
length_stays order part more long =
    ap (value order 4) (drop-append-le 8 part more (omega arith))
    ∙ value-append order 4 (drop 8 part) more (omega (arith, length-drop 8 part))

-- no record came whole with the octets
none_whole : (order : Order) (part more new taken : List ℕ) (records : List Captured) → new ≡ part ++ more → Begins order taken records part
    → Begins order (taken ++ more) (records ++ []) new
none_whole order part more new taken records e b =
    subst (λ (rest : List ℕ). Begins order (taken ++ more) (records ++ []) rest) (sym e)
    (subst (λ (xs : List Captured). Begins order (taken ++ more) xs (part ++ more)) (sym (append-nil records))
    (more_behind order taken more part records b))

pub takes_part : (order : Order) (part more new : List ℕ) → new ≡ part ++ more → IsPart order new
    → Takes (InRecord order part) more (InRecord order new)
takes_part order part more new e partial taken records h =
    record { begins = none_whole order part more new taken records e h.begins; partial = partial }

pub takes_too_great : (order : Order) (fault : PcapFault) (part more new : List ℕ) → new ≡ part ++ more → IsBytes new → HasTooGreat order new fault
    → Takes (InRecord order part) more (Stopped fault)
takes_too_great order fault part more new e bytes wrong taken records h =
    inr (record {
      order = order;
      captured = captured_length order new;
      part = new;
      rest = [];
      begins =
          subst (λ (rest : List ℕ). Begins order (taken ++ more) (records ++ []) rest) (sym (append-nil new))
          (none_whole order part more new taken records e h.begins);
      wrong = other_length order new bytes wrong.whole wrong.many;
      told = wrong.told;
    })

all_captured-push : (order : Order) (records : List Captured) (c : Captured) (rest : List ℕ)
    → all_captured order records ++ (captured_octets order c ++ rest) ≡ all_captured order (records ++ c ∷ []) ++ rest
all_captured-push order [] c rest = ap (λ (xs : List ℕ). xs ++ rest) (sym (append-nil (captured_octets order c)))
all_captured-push order (x ∷ xs) c rest =
    append_assoc (captured_octets order x) (all_captured order xs) (captured_octets order c ++ rest)
    ∙ ap (λ (zs : List ℕ). captured_octets order x ++ zs) (all_captured-push order xs c rest)
    ∙ sym (append_assoc (captured_octets order x) (all_captured order (xs ++ c ∷ [])) rest)

pub takes_whole : (order : Order) (part more new : List ℕ) → new ≡ part ++ more → IsBytes new → IsWhole order new
    → Takes (InRecord order part) more (AtRecord order (captured_in order new))
takes_whole order part more new e bytes whole taken records h =
    let c = captured_in order new in
    let b = more_behind order taken more part records h.begins in
    let spelled : part ++ more ≡ captured_octets order c ++ [] = sym e ∙ whole_spelled order new bytes whole ∙ sym (append-nil (captured_octets order c)) in
    record {
      before = records;
      last = refl;
      begins = record {
        header = b.header;
        right = b.right;
        each = AllByRecursion-push IsCaptured records c b.each (whole_is_captured order new bytes whole);
        spelled =
            b.spelled
            ∙ ap (λ (xs : List ℕ). header_octets order b.header ++ (all_captured order records ++ xs)) spelled
            ∙ ap (λ (xs : List ℕ). header_octets order b.header ++ xs) (all_captured-push order records c []);
      };
    }

-- ---- a record taken up to its captured length, and up to its end

pub takes_by_length : (order : Order) (stage : Stage) (part more new : List ℕ) → new ≡ part ++ more → IsBytes new → IsByLength order new stage
    → Takes (InRecord order part) more (reading_of stage new)
takes_by_length order Header part more new e bytes h = absurd h
takes_by_length order (Part told) part more new e bytes h =
    subst (λ (o : Order). Takes (InRecord order part) more (InRecord o new)) (sym h.0) (takes_part order part more new e h.1)
takes_by_length order (Whole told) part more new e bytes h = absurd h
takes_by_length order (Broken fault) part more new e bytes h = takes_too_great order fault part more new e bytes h

-- octets of a record behind its captured length, of which so many are to come in all
pub record TakesBehind (order : Order) (part more new : List ℕ) (whole : ℕ) : Type 0 where
  pub partial : IsPart order part
  pub long : 12 ≤ length part
  pub size : whole ≡ 16 + captured_length order part
  pub same : new ≡ part ++ more

length_again : (order : Order) (part more new : List ℕ) (whole : ℕ) → TakesBehind order part more new whole
    → captured_length order new ≡ captured_length order part
length_again order part more new whole t = ap (captured_length order) t.same ∙ length_stays order part more t.long

pub still_part : (order : Order) (part more new : List ℕ) (whole : ℕ) → TakesBehind order part more new whole → length new < whole → IsPart order new
still_part order part more new whole t short =
    let again = length_again order part more new whole t in
    let few = t.partial.few t.long in
    let size = t.size in
    record { few = λ _. omega arith; short = λ _. omega arith }

pub is_whole : (order : Order) (part more new : List ℕ) (whole : ℕ) → TakesBehind order part more new whole → length new ≡ whole → IsWhole order new
is_whole order part more new whole t same =
    let again = length_again order part more new whole t in
    let few = t.partial.few t.long in
    let size = t.size in
    record { few = omega arith; size = omega arith }

-- no more octets are held than were to come
pub filled : (whole count : ℕ) (part piece new : List ℕ) → length part < whole → count ≡ min (length piece) (whole - length part)
    → new ≡ part ++ take count piece → length new ≤ whole
filled whole count part piece new short counted e =
    omega (arith, ap length e, length-append part (take count piece), length-take-le count piece (omega arith))
