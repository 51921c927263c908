-- The answers that octets call for, and what is written where they are given.
use Rattle.std.proofs.Common.{◌≡◌, ℕ, min, ◌+◌, ◌-◌, ◌<◌, ◌≤◌, ◌⊎◌, inl, inr, true, false, List, [], ◌∷◌, ◌++◌, length, take, Option, Some, None, refl, sym, ap, ◌∙◌, subst, arith, length-append}
use Rattle.std.specs.Prelude.{IfSome}
use Rattle.std.proofs.lemmas.List.{append-nil, nil_from_length, take_all, take-append-le}
use Rattle.std.proofs.lemmas.Bool.{cases_lt, lt-ltb, le-ltb}
use Rattle.std.proofs.Math.Seq.{take-append-add}
use Rattle.std.proofs.KnownBytes.{Consumes-nil}
use Rattle.std.specs.Io.KnownBytes.{Appends, Consumes, IsAtEnd}
use Rattle.hex.specs.Hex.{IsBytes}
use Rattle.clnp_base.specs.Streams.{AppendsFront, Rose}
use Rattle.clnp_base.specs.CommandBase.Reading.{Excuses}
use Rattle.clnp_base.specs.declared.command_base.status.Status.{Status}
use Rattle.clnp_base.specs.declared.command_base.status.Status.TheVariants.{Done, BadWords, TooLong, BadInput, WorldFull, LinksGone, ReadFault, WriteFault, NoMemory}
use Rattle.clnp_base.proofs.CommandBase.Fronts.{front-longer}
use Rattle.frame_links.specs.declared.pcap_frames.fault.PcapFault.{PcapFault}
use Rattle.frame_links.specs.PcapFrames.File.{Captured}
use Rattle.frame_links.specs.PcapFrames.Reading.{Ending, Entire, CutOff, Faulty, InHeader, IsReadAs, ending_of}
use Rattle.frame_links.proofs.PcapFrames.AnyOctets.{any_read}
use Rattle.frame_links.proofs.PcapFrames.Endings.{taken_is_read}
use Rattle.frame_links.proofs.PcapFrames.Following.{read_bytes}
use Rattle.frame_links.proofs.PcapFrames.OneReading.{fault_stays, read_once}
use Rattle.captures.specs.declared.capture_commands.form.Form.{Form}
use Rattle.captures.specs.declared.capture_commands.teller.Teller.{Teller}
use Rattle.captures.specs.CaptureCommands.Called.{Calls, fault_status, has_fault, long_status, most_octets, status_read, whole_status}
use Rattle.captures.specs.CaptureCommands.Serves.{Answers, Came, ComesTo, IsDecided, ServesFile, WritesFront, WritesSome}
use Rattle.captures.specs.CaptureCommands.Underway.{GoesOn, StopOf, TellsSome, Told}
use Rattle.captures.proofs.CaptureCommands.Steps.{told_first}
use Rattle.captures.proofs.CaptureCommands.ToldLines.{AreOctets, SomeLine, some_output, tells_append}

-- ---- octets within the limit

within_is_all : (octets : List ℕ) → length octets ≤ most_octets → take most_octets octets ≡ octets
within_is_all octets within = take_all most_octets octets within

-- at most one octet more than the limit
pub record Limited (octets within : List ℕ) : Type 0 where
  pub few : length octets ≤ most_octets + 1
  pub front : take most_octets octets ≡ within

pub limited_all : (octets : List ℕ) → length octets ≤ most_octets → Limited octets octets
limited_all octets within = record { few = omega arith; front = within_is_all octets within }

-- ---- the answer

-- not too many octets
answer_within : (octets : List ℕ) (records : List Captured) (ending : Ending) → length octets ≤ most_octets
    → status_read octets records ending ≡ whole_status (length octets) (length records) ending
answer_within octets records ending within = rw (le-ltb most_octets (length octets) within) refl

answer_beyond : (octets : List ℕ) (records : List Captured) (ending : Ending) → most_octets < length octets
    → status_read octets records ending ≡ long_status (length records) ending
answer_beyond octets records ending beyond = rw (lt-ltb most_octets (length octets) beyond) refl

answer_faulty : (octets : List ℕ) (records : List Captured) (fault : PcapFault)
    → status_read octets records (Faulty fault) ≡ fault_status (length records) fault
answer_faulty octets records fault =
    elim (cases_lt most_octets (length octets)) [
      | inl beyond ↦ answer_beyond octets records (Faulty fault) beyond
      | inr within ↦ answer_within octets records (Faulty fault) within
    ]

too_long : (whole : ℕ) (ending : Ending) → has_fault ending ≡ false → long_status whole ending ≡ TooLong
too_long whole Entire e = refl
too_long whole (CutOff count) e = refl
too_long whole (Faulty fault) e = cc e

-- ---- what is written

came : (a b : Option (List ℕ)) (octets within : List ℕ) (records : List Captured) (ending : Ending) → Consumes a b octets → Limited octets within
    → IsReadAs within records ending → Came a b octets records ending
came a b octets within records ending consumed limited read =
    record {
      consumed = consumed;
      few = limited.few;
      read = subst (λ (xs : List ℕ). IsReadAs xs records ending) (sym limited.front) read;
    }

-- a front of the lines of some records is one of the lines of all
all_told : SomeLine → (form : Form) (a b c d : Option (List ℕ)) (octets within : List ℕ) → Consumes a b octets → Limited octets within
    → TellsSome AppendsFront form within c d → WritesFront form a b c d
all_told law form a b c d octets within consumed limited s =
    let are : AreOctets (s.made ++ s.later) = read_bytes within (s.made ++ s.later) s.ending s.bytes s.read in
    let rest = some_output law form (1 + length s.made) s.later (later_octets s.made s.later are) in
    record {
      octets = octets;
      records = s.made ++ s.later;
      ending = s.ending;
      came = came a b octets within (s.made ++ s.later) s.ending consumed limited s.read;
      output = s.output ++ rest.0;
      tells = tells_append form 1 s.made s.later s.output rest.0 s.tells rest.1;
      appended = front-longer c d s.output rest.0 s.wrote;
    }
  where
    later_octets : (made later : List Captured) → AreOctets (made ++ later) → AreOctets later
    later_octets [] later are = are
    later_octets (x ∷ xs) later are = later_octets xs later are.1

some_told : (form : Form) (a b c d : Option (List ℕ)) (octets within : List ℕ) → Consumes a b octets → Limited octets within
    → TellsSome Appends form within c d → WritesSome form a b c d
some_told form a b c d octets within consumed limited s =
    record {
      octets = octets;
      made = s.made;
      later = s.later;
      ending = s.ending;
      came = came a b octets within (s.made ++ s.later) s.ending consumed limited s.read;
      output = s.output;
      tells = s.tells;
      appended = s.wrote;
    }

-- ---- the answers

-- telling stopped within the octets
pub stopped : SomeLine → (form : Form) (a b c d : Option (List ℕ)) (octets within : List ℕ) (answer : Status) → Consumes a b octets
    → Limited octets within → StopOf form within c d answer → ComesTo form a b c d answer
stopped law form a b c d octets within (BadInput line code) consumed limited s =
    record {
      octets = octets;
      records = s.records;
      ending = Faulty s.fault;
      came = came a b octets within s.records (Faulty s.fault) consumed limited s.read;
      decided = inl refl;
      answer = s.is ∙ sym (answer_faulty octets s.records s.fault);
      output = s.output;
      tells = s.tells;
      appended = s.appended;
    }
stopped law form a b c d octets within WriteFault consumed limited s = all_told law form a b c d octets within consumed limited s
stopped law form a b c d octets within NoMemory consumed limited s = some_told form a b c d octets within consumed limited s
stopped law form a b c d octets within Done consumed limited s = absurd s
stopped law form a b c d octets within (BadWords at) consumed limited s = absurd s
stopped law form a b c d octets within TooLong consumed limited s = absurd s
stopped law form a b c d octets within (WorldFull weight) consumed limited s = absurd s
stopped law form a b c d octets within (LinksGone links) consumed limited s = absurd s
stopped law form a b c d octets within ReadFault consumed limited s = absurd s

-- the octets call for this answer
answered : (t : Teller) (a b c d : Option (List ℕ)) (taken octets : List ℕ) (answer : Status) → (w : Told t taken c d)
    → Consumes a b octets → Limited octets taken → IsDecided b octets (ending_of t.reader)
    → answer ≡ status_read octets w.records (ending_of t.reader) → Answers t.form a b c d answer
answered t a b c d taken octets answer w consumed limited decided is =
    record {
      octets = octets;
      records = w.records;
      ending = ending_of t.reader;
      came = came a b octets taken w.records (ending_of t.reader) consumed limited (taken_is_read t.reader taken w.records w.stands);
      decided = decided;
      answer = is;
      output = w.output;
      tells = w.tells;
      appended = w.appended;
    }

-- the source failed
pub read_failed : (t : Teller) (a b c d : Option (List ℕ)) (taken : List ℕ) → Told t taken c d → Consumes a b taken → length taken ≤ most_octets
    → ComesTo t.form a b c d ReadFault
read_failed t a b c d taken w consumed within =
    record {
      octets = taken;
      records = w.records;
      ending = ending_of t.reader;
      came = came a b taken taken w.records (ending_of t.reader) consumed (limited_all taken within) (taken_is_read t.reader taken w.records w.stands);
      within = within;
      no_fault = w.going;
      output = w.output;
      tells = w.tells;
      appended = w.appended;
    }

-- the answer to a whole file is one that is given with all lines
whole_comes : (form : Form) (a b c e : Option (List ℕ)) (size whole : ℕ) (ending : Ending) → has_fault ending ≡ false
    → Answers form a b c e (whole_status size whole ending) → ComesTo form a b c e (whole_status size whole ending)
whole_comes form a b c e size whole Entire going answers = answers
whole_comes form a b c e size whole (CutOff count) going answers = answers
whole_comes form a b c e size whole (Faulty fault) going answers = cc going

-- the source is at its end
read_whole : (t : Teller) (a b c d : Option (List ℕ)) (taken : List ℕ) (answer : Status) → Told t taken c d
    → Consumes a b taken → length taken ≤ most_octets → IsAtEnd b → answer ≡ whole_status t.size t.number (ending_of t.reader)
    → ComesTo t.form a b c d answer
read_whole t a b c d taken answer w consumed within at_end is =
    let ending = ending_of t.reader in
    let read : whole_status t.size t.number ending ≡ status_read taken w.records ending =
    ap (λ (n : ℕ). whole_status n t.number ending) w.sized
    ∙ ap (λ (n : ℕ). whole_status (length taken) n ending) w.counted
    ∙ sym (answer_within taken w.records ending within) in
    subst (ComesTo t.form a b c d) (sym is)
    (whole_comes t.form a b c d t.size t.number ending w.going
    (answered t a b c d taken taken (whole_status t.size t.number ending) w consumed (limited_all taken within) (inr (inr at_end)) read))

-- too many octets came
read_beyond : (t : Teller) (a b c d : Option (List ℕ)) (taken octets : List ℕ) → Told t taken c d
    → Consumes a b octets → Limited octets taken → most_octets < length octets → ComesTo t.form a b c d TooLong
read_beyond t a b c d taken octets w consumed limited beyond =
    let ending = ending_of t.reader in
    answered t a b c d taken octets TooLong w consumed limited (inr (inl beyond))
    (sym (answer_beyond octets w.records ending beyond ∙ too_long (length w.records) ending w.going))

-- ---- a piece that came

-- a piece of which at most one octet is beyond the limit
pub limited_piece : (taken piece : List ℕ) (size within : ℕ) → size ≡ length taken → size + length piece ≤ most_octets + 1 → size ≤ most_octets
    → within ≡ min (length piece) (most_octets - size) → Limited (taken ++ piece) (taken ++ take within piece)
limited_piece taken piece size within sized few most is =
    let k = most_octets - size in
    let sum : most_octets ≡ length taken + k = omega arith in
    record {
      few = omega (arith, length-append taken piece);
      front =
          ap (λ (n : ℕ). take n (taken ++ piece)) sum
          ∙ take-append-add taken piece k
          ∙ ap (λ (xs : List ℕ). taken ++ xs) (sym (ap (λ (n : ℕ). take n piece) is ∙ short (length piece) k piece refl));
    }
  where
    short : (n k : ℕ) (xs : List ℕ) → n ≡ length xs → take (min n k) xs ≡ take k xs
    short n k xs e = elim (cases_lt k n) [
      | inl less ↦ ap (λ (m : ℕ). take m xs) {x = min n k} {y = k} (omega arith)
      | inr more ↦
          ap (λ (m : ℕ). take m xs) {x = min n k} {y = n} (omega arith)
          ∙ take_all n xs (omega arith)
          ∙ sym (take_all k xs (omega arith))
    ]

-- no octet came
pub piece_none : (t : Teller) (a b c d : Option (List ℕ)) (taken piece : List ℕ) (answer : Status) → Told t taken c d
    → Consumes a b (taken ++ piece) → (length piece ≡ 0 → IsAtEnd b) → length piece ≡ 0 → t.size ≤ most_octets
    → (has_fault (ending_of t.reader) ≡ false → answer ≡ whole_status t.size t.number (ending_of t.reader)) → ComesTo t.form a b c d answer
piece_none t a b c d taken piece answer w consumed at_end none within is =
    let sized = w.sized in
    let all : taken ++ piece ≡ taken = ap (λ (xs : List ℕ). taken ++ xs) (nil_from_length piece none) ∙ append-nil taken in
    read_whole t a b c d taken answer w (subst (Consumes a b) all consumed) (omega (arith, sized, within)) (at_end none) (is w.going)

-- the octets of a piece within the limit were taken
within_whole : (piece : List ℕ) (size within : ℕ) → length piece ≤ most_octets - size → within ≡ min (length piece) (most_octets - size)
    → take within piece ≡ piece
within_whole piece size within fits is = take_all within piece (omega arith)

pub piece_goes_on : (n : Teller) (a b c d : Option (List ℕ)) (taken piece : List ℕ) (size within : ℕ) → Told n (taken ++ take within piece) c d
    → Consumes a b (taken ++ piece) → length piece ≤ most_octets - size → within ≡ min (length piece) (most_octets - size) → GoesOn n a b c d
piece_goes_on n a b c d taken piece size within w consumed fits is =
    record {
      taken = taken ++ piece;
      consumed = consumed;
      told = subst (λ (xs : List ℕ). Told n (taken ++ xs) c d) (within_whole piece size within fits is) w;
    }

-- one octet is beyond the limit
pub piece_beyond : (n : Teller) (form : Form) (a b c d : Option (List ℕ)) (taken piece : List ℕ) (size within : ℕ)
    → Told n (taken ++ take within piece) c d → Consumes a b (taken ++ piece) → size ≡ length taken → size + length piece ≤ most_octets + 1
    → size ≤ most_octets → within ≡ min (length piece) (most_octets - size) → most_octets - size < length piece → n.form ≡ form
    → ComesTo form a b c d TooLong
piece_beyond n form a b c d taken piece size within w consumed sized few most is beyond same =
    subst (λ (f : Form). ComesTo f a b c d TooLong) same
    (read_beyond n a b c d (taken ++ take within piece) (taken ++ piece) w consumed (limited_piece taken piece size within sized few most is)
    (omega (arith, length-append taken piece)))

-- ---- where the source tells its octets

-- the first octets of a list and of a longer one
record FrontOf (n : ℕ) (xs ys : List ℕ) : Type 0 where
  pub more : List ℕ
  pub is : take n (xs ++ ys) ≡ take n xs ++ more

front_of : (n : ℕ) (xs ys : List ℕ) → FrontOf n xs ys
front_of n xs ys = elim (cases_lt n (length xs)) [
  | inl less ↦ record { more = []; is = take-append-le n xs ys (omega arith) ∙ sym (append-nil (take n xs)) }
  | inr most ↦
      let k = n - length xs in
      let sum : n ≡ length xs + k = omega arith in
      record {
        more = take k ys;
        is =
            ap (λ (m : ℕ). take m (xs ++ ys)) sum
            ∙ take-append-add xs ys k
            ∙ ap (λ (t : List ℕ). t ++ take k ys) (sym (take_all n xs most));
      }
]

-- what follows decided octets doesn't matter
calls_longer : (octets rest : List ℕ) (records : List Captured) (ending : Ending) (status : Status)
    → IsReadAs (take most_octets octets) records ending → IsDecided (Some rest) octets ending → status ≡ status_read octets records ending
    → Calls (octets ++ rest) status
calls_longer octets rest records ending status read (inl faulty) is = by_ending ending faulty read is
  where
    by_ending : (e : Ending) → has_fault e ≡ true → IsReadAs (take most_octets octets) records e → status ≡ status_read octets records e
        → Calls (octets ++ rest) status
    by_ending Entire f r s = cc f
    by_ending (CutOff count) f r s = cc f
    by_ending (Faulty fault) f r s =
        let front = front_of most_octets octets rest in
        record {
          records = records;
          ending = Faulty fault;
          read =
              subst (λ (xs : List ℕ). IsReadAs xs records (Faulty fault)) (sym front.is)
              (fault_stays (take most_octets octets) front.more records fault r);
          answer = s ∙ answer_faulty octets records fault ∙ sym (answer_faulty (octets ++ rest) records fault);
        }
calls_longer octets rest records ending status read (inr (inl beyond)) is =
    record {
      records = records;
      ending = ending;
      read =
          subst (λ (xs : List ℕ). IsReadAs xs records ending) (sym (take-append-le most_octets octets rest (omega arith))) read;
      answer =
          is
          ∙ answer_beyond octets records ending beyond
          ∙ sym (answer_beyond (octets ++ rest) records ending (omega (arith, length-append octets rest)));
    }
calls_longer octets rest records ending status read (inr (inr at_end)) is =
    subst (λ (xs : List ℕ). Calls xs status) (sym (ap (λ (t : List ℕ). octets ++ t) at_end ∙ append-nil octets))
    (record { records = records; ending = ending; read = read; answer = is })

answer_called : (form : Form) (a b c d : Option (List ℕ)) (status : Status) → Answers form a b c d status → IfSome a (λ octets. Calls octets status)
answer_called form None b c d status h = tt
answer_called form (Some text) None c d status h = absurd (let k = h.came in k.consumed)
answer_called form (Some text) (Some rest) c d status h =
    let k = h.came in
    subst (λ (xs : List ℕ). Calls xs status) (sym k.consumed)
    (calls_longer h.octets rest h.records h.ending status k.read h.decided h.answer)

either : (P : List ℕ → Type 0) (Q : Type 0) (a : Option (List ℕ)) → IfSome a P → IfSome a (λ octets. P octets ⊎ Q)
either P Q None h = tt
either P Q (Some x) h = inl h

excused : (P : List ℕ → Type 0) (Q : Type 0) (a : Option (List ℕ)) → Q → IfSome a (λ octets. P octets ⊎ Q)
excused P Q None h = tt
excused P Q (Some x) h = inr h

called_or_excused : (form : Form) (a b c d : Option (List ℕ)) (R W : Type 0) (status : Status) → ComesTo form a b c d status
    → (status ≡ ReadFault → R) → (status ≡ WriteFault → W) → IfSome a (λ octets. Calls octets status ⊎ Excuses R W status)
called_or_excused form a b c d R W Done h r w =
    either (λ octets. Calls octets Done) (Excuses R W Done) a (answer_called form a b c d Done h)
called_or_excused form a b c d R W (BadInput line code) h r w =
    either (λ octets. Calls octets (BadInput line code)) (Excuses R W (BadInput line code)) a (answer_called form a b c d (BadInput line code) h)
called_or_excused form a b c d R W TooLong h r w =
    either (λ octets. Calls octets TooLong) (Excuses R W TooLong) a (answer_called form a b c d TooLong h)
called_or_excused form a b c d R W ReadFault h r w = excused (λ octets. Calls octets ReadFault) R a (r refl)
called_or_excused form a b c d R W WriteFault h r w = excused (λ octets. Calls octets WriteFault) W a (w refl)
called_or_excused form a b c d R W NoMemory h r w = excused (λ octets. Calls octets NoMemory) (Unit {0}) a tt
called_or_excused form a b c d R W (BadWords at) h r w = absurd h
called_or_excused form a b c d R W (WorldFull weight) h r w = absurd h
called_or_excused form a b c d R W (LinksGone links) h r w = absurd h

pub serves : (form : Form) (a b c d : Option (List ℕ)) (R W : Type 0) (status : Status) → ComesTo form a b c d status
    → (status ≡ ReadFault → R) → (status ≡ WriteFault → W) → ServesFile form a b c d R W status
serves form a b c d R W status h r w =
    record { answer = called_or_excused form a b c d R W status h r w; comes_to = h; read_fault = r; write_fault = w }

-- ---- memory refused before anything was read

pub nothing_told : (form : Form) (a c : Option (List ℕ)) → WritesSome form a a c c
nothing_told form a c =
    some_told form a a c c [] [] (consumes_none a) (limited_all [] (omega arith))
    (record {
      bytes = λ i. omega arith;
      made = [];
      later = [];
      ending = CutOff 0;
      read = inl (record { none = refl; few = omega arith; counted = refl });
      output = [];
      tells = refl;
      wrote = appends_none c;
    })
  where
    consumes_none : (x : Option (List ℕ)) → Consumes x x []
    consumes_none None = tt
    consumes_none (Some xs) = refl

    appends_none : (x : Option (List ℕ)) → Appends x x []
    appends_none None = tt
    appends_none (Some xs) = sym (append-nil xs)

not_read : NoMemory ≡ ReadFault → ⊥
not_read e = cc e

not_written : NoMemory ≡ WriteFault → ⊥
not_written e = cc e

pub nothing_served : (form : Form) (a c : Option (List ℕ)) (R W : Type 0) → ServesFile form a a c c R W NoMemory
nothing_served form a c R W =
    serves form a a c c R W NoMemory (nothing_told form a c) (λ is. absurd (not_read is)) (λ is. absurd (not_written is))

-- ---- counts of faults

pub Rose-later : (a b c : ℕ) → a ≤ b → Rose b c → Rose a c
Rose-later a b c le rose = omega arith

-- ---- going on

pub goes_first : (t : Teller) (form : Form) (a c : Option (List ℕ))
    → ((t.form ≡ form) × (t.reader ≡ InHeader []) × (t.number ≡ 0) × (t.size ≡ 0) × (t.block.items ≡ [])) → GoesOn t a a c c
goes_first t form a c h = record { taken = []; consumed = Consumes-nil a; told = told_first t c h.1 h.2 h.3 h.4 }

-- ---- one answer

pub one_status : (octets : List ℕ) (status other : Status) → Calls octets status → Calls octets other → status ≡ other
one_status octets status other p q =
    let same = read_once (take most_octets octets) p.records q.records p.ending q.ending p.read q.read in
    p.answer
    ∙ ap (λ (rs : List Captured). status_read octets rs p.ending) same.0
    ∙ ap (λ (e : Ending). status_read octets q.records e) same.1
    ∙ sym q.answer

pub some_status : (octets : List ℕ) → IsBytes (take most_octets octets) → (status : Status) × Calls octets status
some_status octets bytes =
    let r = any_read (take most_octets octets) bytes in
    (status_read octets r.0 r.1.0, record { records = r.0; ending = r.1.0; read = r.1.1; answer = refl })
