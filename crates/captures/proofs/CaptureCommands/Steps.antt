-- Steps of telling a file's records.
use Rattle.std.proofs.Common.{◌≡◌, ℕ, ◌+◌, ◌-◌, ◌≤◌, ◌⊎◌, inl, inr, true, false, List, [], ◌∷◌, ◌++◌, length, take, drop, Option, Some, None, Result, Ok, Err, refl, sym, ap, ◌∙◌, subst, arith, length-append}
use Rattle.std.proofs.lemmas.List.{append_assoc, append-nil, take-append-drop, length-take-le, nil_from_length, take_rest, get_or_append_left, get_or-append_right}
use Rattle.std.proofs.lemmas.Bool.{cases_lt}
use Rattle.clnp_base.proofs.ListSteps.{bytes_of_drop, bytes_of_take}
use Rattle.std.proofs.KnownBytes.{Appends-nil, Appends-trans}
use Rattle.std.specs.Io.KnownBytes.{Appends}
use Rattle.std.specs.Option.{option_to_list}
use Rattle.std.proofs.lemmas.Option.{same_Some}
use Rattle.std.specs.Prelude.{◌↔◌, OnErr, OnOk, is_some}
use Rattle.hex.specs.Hex.{IsBytes}
use Rattle.clnp_base.specs.Streams.{AppendsFront}
use Rattle.clnp_base.specs.declared.command_base.block.LineStop.{LineStop}
use Rattle.clnp_base.specs.declared.command_base.status.Status.{Status}
use Rattle.clnp_base.specs.declared.command_base.status.Status.TheVariants.{Done, BadWords, TooLong, BadInput, WorldFull, LinksGone, ReadFault, WriteFault, NoMemory}
use Rattle.clnp_base.specs.declared.command_base.block.LineStop.TheVariants as line_stop
use Rattle.clnp_base.specs.CommandBase.ByLine.{BlockOf}
use Rattle.clnp_base.proofs.CommandBase.Fronts.{front-behind}
use Rattle.frame_links.specs.declared.pcap_frames.fault.PcapFault.{PcapFault}
use Rattle.frame_links.specs.declared.pcap_frames.fault.PcapFault.TheVariants.{Magic, Version, LinkType, RecordLength}
use Rattle.frame_links.specs.declared.pcap_frames.taking.Took.{Took}
use Rattle.frame_links.specs.PcapFrames.File.{Captured}
use Rattle.frame_links.specs.PcapFrames.Reading.{AtRecord, Faulty, InHeader, InRecord, IsReadAs, Reading, Stands, Stopped, Takes, current_of, ending_of}
use Rattle.frame_links.proofs.PcapFrames.Endings.{taken_is_read}
use Rattle.frame_links.proofs.PcapFrames.Following.{follows}
use Rattle.frame_links.proofs.PcapFrames.OneReading.{fault_stays}
use Rattle.captures.specs.declared.capture_commands.form.Form.{Form}
use Rattle.captures.specs.declared.capture_commands.teller.Teller.{Teller}
use Rattle.captures.specs.CaptureCommands.Lines.{TellsRecord, TellsRecords}
use Rattle.captures.specs.CaptureCommands.Called.{fault_status, has_fault}
use Rattle.captures.specs.CaptureCommands.Underway.{Breaks, FinishOf, StopOf, TellsOf, TellsSome, Told, Underway}
use Rattle.captures.proofs.CaptureCommands.ToldLines.{tells_both, tells_push}

-- ---- octets

-- octets behind octets
pub bytes_both : (xs ys : List ℕ) → IsBytes xs → IsBytes ys → IsBytes (xs ++ ys)
bytes_both xs ys a b = λ i. elim (cases_lt i (length xs)) [
  | inl within ↦ let byte = a i in omega (arith, get_or_append_left xs ys 0 i within)
  | inr past ↦ let byte = b (i - length xs) in omega (arith, get_or-append_right xs ys (length xs) i 0 refl past)
]

-- ---- a teller and what it told

-- a teller at the beginning
pub told_first : (t : Teller) (a : Option (List ℕ)) → t.reader ≡ InHeader [] → t.number ≡ 0 → t.size ≡ 0 → t.block.items ≡ [] → Told t [] a a
told_first t a reader number size block =
    record {
      records = [];
      stands = subst (λ (r : Reading). Stands r [] []) (sym reader) (record { same = refl; few = omega arith; none = refl });
      going = ap (λ (r : Reading). has_fault (ending_of r)) reader;
      bytes = λ i. omega arith;
      sized = size;
      counted = number;
      output = [];
      tells = refl;
      appended = Appends-nil a;
      none_waits = block;
    }

-- where no line waits
pub told_all : (t : Teller) (taken : List ℕ) (a b : Option (List ℕ)) → Told t taken a b → Underway [] t taken a b
told_all t taken a b w =
    record {
      made = w.records;
      waiting = [];
      stands = subst (λ (rs : List Captured). Stands t.reader taken rs) (sym (append-nil (w.records ++ []) ∙ append-nil w.records)) w.stands;
      going = w.going;
      bytes = w.bytes;
      sized = w.sized;
      counted = w.counted ∙ ap length (sym (append-nil w.records));
      output = w.output;
      tells = w.tells;
      appended = w.appended;
      waits = w.none_waits;
    }

-- the output that is written and the lines that wait
told_so_far : (u : List Captured) (t : Teller) (taken : List ℕ) (a b : Option (List ℕ)) → (w : Underway u t taken a b)
    → TellsRecords t.form 1 (w.made ++ w.waiting) (w.output ++ t.block.items)
told_so_far u t taken a b w = tells_both t.form w.made w.waiting w.output t.block.items w.tells w.waits

-- the lines that waited are written
pub all_written : (t n : Teller) (taken : List ℕ) (a b c : Option (List ℕ)) → Underway [] t taken a b → n ≡ record t { block = n.block }
    → Appends b c t.block.items → n.block.items ≡ [] → Told n taken a c
all_written t n taken a b c w same p none =
    subst (λ (m : Teller). Told m taken a c) (sym same)
    (record {
      records = w.made ++ w.waiting;
      stands = subst (λ (rs : List Captured). Stands t.reader taken rs) (append-nil (w.made ++ w.waiting)) w.stands;
      going = w.going;
      bytes = w.bytes;
      sized = w.sized;
      counted = w.counted;
      output = w.output ++ t.block.items;
      tells = told_so_far [] t taken a b w;
      appended = Appends-trans a b c w.output t.block.items w.appended p;
      none_waits = none;
    })

-- a record came whole, and its line was put into the block
pub told_one : (c : Captured) (t n : Teller) (taken line : List ℕ) (a b : Option (List ℕ)) → Underway (c ∷ []) t taken a b
    → n.form ≡ t.form → n.reader ≡ t.reader → n.number ≡ t.number + 1 → n.size ≡ t.size → n.block.items ≡ (t.block.items ++ line) ++ (10 ∷ [])
    → TellsRecord t.form n.number c line → Underway [] n taken a b
told_one c t n taken line a b w form reader number size block tells =
    let counted = w.counted in
    let both = length-append w.made w.waiting in
    let all : (w.made ++ w.waiting) ++ c ∷ [] ≡ (w.made ++ (w.waiting ++ c ∷ [])) ++ [] =
    append_assoc w.made w.waiting (c ∷ []) ∙ sym (append-nil (w.made ++ (w.waiting ++ c ∷ []))) in
    record {
      made = w.made;
      waiting = w.waiting ++ c ∷ [];
      stands =
          subst (λ (r : Reading). Stands r taken ((w.made ++ (w.waiting ++ c ∷ [])) ++ [])) (sym reader)
          (subst (λ (rs : List Captured). Stands t.reader taken rs) all w.stands);
      going = ap (λ (r : Reading). has_fault (ending_of r)) reader ∙ w.going;
      bytes = w.bytes;
      sized = size ∙ w.sized;
      counted = omega (arith, length-append w.made (w.waiting ++ c ∷ []), length-append w.waiting (c ∷ []));
      output = w.output;
      tells = subst (λ (f : Form). TellsRecords f 1 w.made w.output) (sym form) w.tells;
      appended = w.appended;
      waits =
          subst (λ (f : Form). TellsRecords f (length w.made + 1) (w.waiting ++ c ∷ []) n.block.items) (sym form)
          (subst (λ (text : List ℕ). TellsRecords t.form (length w.made + 1) (w.waiting ++ c ∷ []) text) (sym block)
          (tells_push t.form (length w.made + 1) w.waiting n.number c t.block.items line w.waits (omega arith) tells));
    }

-- the block was written, or it waits on
pub block_written : (u : List Captured) (t n : Teller) (taken : List ℕ) (a b c : Option (List ℕ)) → Underway u t taken a b
    → n.form ≡ t.form → n.reader ≡ t.reader → n.number ≡ t.number → n.size ≡ t.size
    → (Appends b c t.block.items × (n.block.items ≡ [])) ⊎ (Appends b c [] × (n.block.items ≡ t.block.items)) → Underway u n taken a c
block_written u t n taken a b c w form reader number size (inl p) =
    record {
      made = w.made ++ w.waiting;
      waiting = [];
      stands =
          subst (λ (r : Reading). Stands r taken (((w.made ++ w.waiting) ++ []) ++ u)) (sym reader)
          (subst (λ (rs : List Captured). Stands t.reader taken (rs ++ u)) (sym (append-nil (w.made ++ w.waiting))) w.stands);
      going = ap (λ (r : Reading). has_fault (ending_of r)) reader ∙ w.going;
      bytes = w.bytes;
      sized = size ∙ w.sized;
      counted = number ∙ w.counted ∙ ap length (sym (append-nil (w.made ++ w.waiting)));
      output = w.output ++ t.block.items;
      tells =
          subst (λ (f : Form). TellsRecords f 1 (w.made ++ w.waiting) (w.output ++ t.block.items)) (sym form)
          (told_so_far u t taken a b w);
      appended = Appends-trans a b c w.output t.block.items w.appended p.0;
      waits = p.1;
    }
block_written u t n taken a b c w form reader number size (inr p) =
    record {
      made = w.made;
      waiting = w.waiting;
      stands = subst (λ (r : Reading). Stands r taken ((w.made ++ w.waiting) ++ u)) (sym reader) w.stands;
      going = ap (λ (r : Reading). has_fault (ending_of r)) reader ∙ w.going;
      bytes = w.bytes;
      sized = size ∙ w.sized;
      counted = number ∙ w.counted;
      output = w.output;
      tells = subst (λ (f : Form). TellsRecords f 1 w.made w.output) (sym form) w.tells;
      appended = subst (Appends a c) (append-nil w.output) (Appends-trans a b c w.output [] w.appended p.0);
      waits =
          subst (λ (f : Form). TellsRecords f (length w.made + 1) w.waiting n.block.items) (sym form)
          (subst (λ (text : List ℕ). TellsRecords t.form (length w.made + 1) w.waiting text) (sym p.1) w.waits);
    }

-- octets were taken, with which no fault came
pub fed : (t n : Teller) (taken front : List ℕ) (a b : Option (List ℕ)) → Underway [] t taken a b
    → n.form ≡ t.form → Takes t.reader front n.reader → n.number ≡ t.number → n.size ≡ t.size + length front → n.block.items ≡ t.block.items
    → IsBytes front → has_fault (ending_of n.reader) ≡ false → Underway (option_to_list (current_of n.reader)) n (taken ++ front) a b
fed t n taken front a b w form takes number size block bytes going =
    let sized = w.sized in
    record {
      made = w.made;
      waiting = w.waiting;
      stands =
          subst (λ (rs : List Captured). Stands n.reader (taken ++ front) (rs ++ option_to_list (current_of n.reader)))
          (append-nil (w.made ++ w.waiting))
          (takes taken ((w.made ++ w.waiting) ++ []) w.stands);
      going = going;
      bytes = bytes_both taken front w.bytes bytes;
      sized = omega (arith, length-append taken front);
      counted = number ∙ w.counted;
      output = w.output;
      tells = subst (λ (f : Form). TellsRecords f 1 w.made w.output) (sym form) w.tells;
      appended = w.appended;
      waits =
          subst (λ (f : Form). TellsRecords f (length w.made + 1) w.waiting n.block.items) (sym form)
          (subst (λ (text : List ℕ). TellsRecords t.form (length w.made + 1) w.waiting text) (sym block) w.waits);
    }

-- no fault is met where a call tells none
pub still_going : (r : Reading) (answer : Result Took PcapFault) (took : Took) → answer ≡ Ok took
    → ((fault : PcapFault) → (answer ≡ Err fault) ↔ (r ≡ Stopped fault)) → has_fault (ending_of r) ≡ false
still_going (InHeader part) answer took is law = refl
still_going (InRecord order []) answer took is law = refl
still_going (InRecord order (x ∷ xs)) answer took is law = refl
still_going (AtRecord order captured) answer took is law = refl
still_going (Stopped fault) answer took is law = let told : answer ≡ Err fault = (law fault).1 refl in cc (sym is ∙ told)

-- what came whole, if anything did
pub none_came : (o : Option Captured) → is_some o ≡ false → option_to_list o ≡ []
none_came None e = refl
none_came (Some c) e = cc e

pub one_came : (o : Option Captured) → is_some o ≡ true → (c : Captured) × ((o ≡ Some c) × (option_to_list o ≡ c ∷ []))
one_came None e = cc e
one_came (Some c) e = (c, (refl, refl))

-- ---- pieces

-- A piece was taken up to what is left of it.
pub record TookFront (t n : Teller) (piece left : List ℕ) (old new : Option (List ℕ)) : Type 0 where
  pub front : List ℕ
  pub split : piece ≡ front ++ left
  pub size : n.size ≡ t.size + length front
  pub form : n.form ≡ t.form
  pub underway : (taken : List ℕ) (before : Option (List ℕ)) → Underway [] t taken before old → Underway [] n (taken ++ front) before new

pub took_none : (t : Teller) (piece : List ℕ) (old : Option (List ℕ)) → TookFront t t piece piece old old
took_none t piece old =
    record {
      front = [];
      split = refl;
      size = omega arith;
      form = refl;
      underway = λ taken before w. subst (λ (xs : List ℕ). Underway [] t xs before old) (sym (append-nil taken)) w;
    }

took_next : (t m n : Teller) (piece left : List ℕ) (count : ℕ) (old mid new : Option (List ℕ)) → TookFront t m piece left old mid
    → count ≤ length left → n.size ≡ m.size + count → n.form ≡ m.form
    → ((taken : List ℕ) (before : Option (List ℕ)) → Underway [] m taken before mid → Underway [] n (taken ++ take count left) before new)
    → TookFront t n piece (drop count left) old new
took_next t m n piece left count old mid new p within size form step =
    let sizes = p.size in
    record {
      front = p.front ++ take count left;
      split =
          p.split
          ∙ ap (λ (xs : List ℕ). p.front ++ xs) (sym (take-append-drop count left))
          ∙ sym (append_assoc p.front (take count left) (drop count left));
      size = omega (arith, length-append p.front (take count left), length-take-le count left within);
      form = form ∙ p.form;
      underway =
          λ taken before w.
          subst (λ (xs : List ℕ). Underway [] n xs before new) (append_assoc taken p.front (take count left))
          (step (taken ++ p.front) before (p.underway taken before w));
    }

pub took_more : (t m n : Teller) (piece left : List ℕ) (count : ℕ) (old mid new : Option (List ℕ)) → TookFront t m piece left old mid
    → count ≤ length left → n.size ≡ m.size + count → n.form ≡ m.form
    → ((taken : List ℕ) (before : Option (List ℕ)) → Underway [] m taken before mid → Underway [] n (taken ++ take count left) before new)
    → TookFront t n piece (take (length left - count) (drop count left)) old new
took_more t m n piece left count old mid new p within size form step =
    subst (λ (xs : List ℕ). TookFront t n piece xs old new) (sym (take_rest left count))
    (took_next t m n piece left count old mid new p within size form step)

-- it stopped within what is left
pub took_stopped : (t m : Teller) (piece left : List ℕ) (old mid new : Option (List ℕ)) (answer : Status) → TookFront t m piece left old mid
    → ((taken : List ℕ) (before : Option (List ℕ)) → Underway [] m taken before mid → StopOf m.form (taken ++ left) before new answer)
    → (taken : List ℕ) (before : Option (List ℕ)) → Underway [] t taken before old → StopOf t.form (taken ++ piece) before new answer
took_stopped t m piece left old mid new answer p stop taken before w =
    let all : (taken ++ p.front) ++ left ≡ taken ++ piece =
    append_assoc taken p.front left ∙ ap (λ (xs : List ℕ). taken ++ xs) (sym p.split) in
    subst (λ (xs : List ℕ). StopOf t.form xs before new answer) all
    (subst (λ (f : Form). StopOf f ((taken ++ p.front) ++ left) before new answer) p.form
    (stop (taken ++ p.front) before (p.underway taken before w)))

-- nothing is left
pub took_all : (t n : Teller) (piece left : List ℕ) (old new : Option (List ℕ)) → TookFront t n piece left old new → length left ≡ 0
    → (taken : List ℕ) (before : Option (List ℕ)) → Underway [] t taken before old → Underway [] n (taken ++ piece) before new
took_all t n piece left old new p none taken before w =
    let all : p.front ≡ piece = sym (append-nil p.front) ∙ ap (λ (xs : List ℕ). p.front ++ xs) (sym (nil_from_length left none)) ∙ sym p.split in
    subst (λ (xs : List ℕ). Underway [] n (taken ++ xs) before new) all (p.underway taken before w)

-- ---- where telling stops

-- memory was refused for the line of a record that came whole, or for more
pub refused : (u : List Captured) (t : Teller) (form : Form) (taken : List ℕ) (a b : Option (List ℕ)) → Underway u t taken a b → t.form ≡ form
    → TellsSome Appends form taken a b
refused u t form taken a b w same =
    record {
      bytes = w.bytes;
      made = w.made;
      later = w.waiting ++ u;
      ending = ending_of t.reader;
      read =
          subst (λ (rs : List Captured). IsReadAs taken rs (ending_of t.reader)) (append_assoc w.made w.waiting u)
          (taken_is_read t.reader taken ((w.made ++ w.waiting) ++ u) w.stands);
      output = w.output;
      tells = subst (λ (f : Form). TellsRecords f 1 w.made w.output) same w.tells;
      wrote = w.appended;
    }

-- writing the block failed
pub cut : (t : Teller) (form : Form) (taken : List ℕ) (a b c : Option (List ℕ)) → Underway [] t taken a b → t.form ≡ form
    → AppendsFront b c t.block.items → TellsSome AppendsFront form taken a c
cut t form taken a b c w same p =
    record {
      bytes = w.bytes;
      made = w.made ++ w.waiting;
      later = [];
      ending = ending_of t.reader;
      read = taken_is_read t.reader taken ((w.made ++ w.waiting) ++ []) w.stands;
      output = w.output ++ t.block.items;
      tells = subst (λ (f : Form). TellsRecords f 1 (w.made ++ w.waiting) (w.output ++ t.block.items)) same (told_so_far [] t taken a b w);
      wrote = front-behind a b c w.output t.block.items w.appended p;
    }

-- the lines that wait are written, or the sink fails
pub wait_no_more : {A : Type 0} → (t n : Teller) (form : Form) (taken : List ℕ) (a b c : Option (List ℕ)) (r : Result A Status) → Underway [] t taken a b
    → t.form ≡ form → n ≡ record t { block = n.block } → OnOk r (n.block.items ≡ []) → OnOk r (Appends b c t.block.items)
    → OnErr r (AppendsFront b c t.block.items) → ((answer : Status) → r ≡ Err answer → answer ≡ WriteFault) → TellsOf form n taken a c r
wait_no_more t n form taken a b c (Ok x) w form_is same none done front refused = all_written t n taken a b c w same done none
wait_no_more t n form taken a b c (Err answer) w form_is same none done front refused =
    subst (StopOf form taken a c) (sym (refused answer refl)) (cut t form taken a b c w form_is front)

-- a block that isn't written whole has a front written
pub block_cut : (A : Type 0) (old new : List ℕ) (b c : Option (List ℕ)) (stop : LineStop) → BlockOf {A = A} old new b c (Err stop) → AppendsFront b c old
block_cut A old new b c line_stop.WriteFault p = p
block_cut A old new b c (line_stop.BadLine code) p = absurd p
block_cut A old new b c line_stop.NoMemory p = absurd p

-- the line of a record that came whole was put into the block
pub told_whole : (cap seen : Captured) (t n : Teller) (taken line : List ℕ) (a b : Option (List ℕ)) → Underway (cap ∷ []) t taken a b
    → current_of t.reader ≡ Some cap → current_of t.reader ≡ Some seen
    → n.form ≡ t.form → n.reader ≡ t.reader → n.number ≡ t.number + 1 → n.size ≡ t.size → n.block.items ≡ (t.block.items ++ line) ++ (10 ∷ [])
    → TellsRecord t.form n.number seen line → Underway [] n taken a b
told_whole cap seen t n taken line a b w is told form reader number size block tells =
    told_one cap t n taken line a b w form reader number size block
    (subst (λ (x : Captured). TellsRecord t.form n.number x line) (same_Some seen cap (sym told ∙ is)) tells)

-- what follows the octets doesn't matter
pub some_longer : (Wrote : Option (List ℕ) → Option (List ℕ) → List ℕ → Type 0) (form : Form) (octets more : List ℕ) (a b : Option (List ℕ))
    → TellsSome Wrote form octets a b → IsBytes more → TellsSome Wrote form (octets ++ more) a b
some_longer Wrote form octets more a b s bytes =
    let both = bytes_both octets more s.bytes bytes in
    let f = follows octets more (s.made ++ s.later) s.ending both s.read in
    record {
      bytes = both;
      made = s.made;
      later = s.later ++ f.0;
      ending = f.1.0;
      read = subst (λ (rs : List Captured). IsReadAs (octets ++ more) rs f.1.0) (append_assoc s.made s.later f.0) f.1.1;
      output = s.output;
      tells = s.tells;
      wrote = s.wrote;
    }

pub stop_longer : (form : Form) (octets more : List ℕ) (a b : Option (List ℕ)) (answer : Status) → StopOf form octets a b answer
    → IsBytes more → StopOf form (octets ++ more) a b answer
stop_longer form octets more a b (BadInput line code) s bytes =
    record {
      records = s.records;
      fault = s.fault;
      read = fault_stays octets more s.records s.fault s.read;
      is = s.is;
      output = s.output;
      tells = s.tells;
      appended = s.appended;
    }
stop_longer form octets more a b WriteFault s bytes = some_longer AppendsFront form octets more a b s bytes
stop_longer form octets more a b NoMemory s bytes = some_longer Appends form octets more a b s bytes
stop_longer form octets more a b Done s bytes = absurd s
stop_longer form octets more a b (BadWords at) s bytes = absurd s
stop_longer form octets more a b TooLong s bytes = absurd s
stop_longer form octets more a b (WorldFull weight) s bytes = absurd s
stop_longer form octets more a b (LinksGone links) s bytes = absurd s
stop_longer form octets more a b ReadFault s bytes = absurd s

-- the answer to a fault is that of bad input
breaks_by : (form : Form) (octets : List ℕ) (a b : Option (List ℕ)) (whole : ℕ) (fault : PcapFault)
    → Breaks form octets a b (fault_status whole fault) → StopOf form octets a b (fault_status whole fault)
breaks_by form octets a b whole Magic s = s
breaks_by form octets a b whole (Version major minor) s = s
breaks_by form octets a b whole (LinkType link) s = s
breaks_by form octets a b whole (RecordLength captured) s = s

-- a fault was met, and the block was written
pub broken : (t : Teller) (taken front rest : List ℕ) (fault : PcapFault) (a b c : Option (List ℕ)) (answer : Status) → Underway [] t taken a b
    → Takes t.reader front (Stopped fault) → IsBytes front → IsBytes rest → FinishOf (fault_status t.number fault) t.block.items b c answer
    → StopOf t.form ((taken ++ front) ++ rest) a c answer
broken t taken front rest fault a b c answer w takes front_bytes bytes finish =
    stop_longer t.form (taken ++ front) rest a c answer (by_finish finish) bytes
  where
    all : List Captured
    all = w.made ++ w.waiting

    read : IsReadAs (taken ++ front) all (Faulty fault)
    read =
        subst (λ (rs : List Captured). IsReadAs (taken ++ front) rs (Faulty fault)) (append-nil (all ++ []) ∙ append-nil all)
        (takes taken (all ++ []) w.stands)

    by_finish : FinishOf (fault_status t.number fault) t.block.items b c answer → StopOf t.form (taken ++ front) a c answer
    by_finish (inl p) =
        subst (StopOf t.form (taken ++ front) a c) (sym p.0)
        (breaks_by t.form (taken ++ front) a c t.number fault (record {
          records = all;
          fault = fault;
          read = read;
          is = ap (λ (n : ℕ). fault_status n fault) w.counted;
          output = w.output ++ t.block.items;
          tells = told_so_far [] t taken a b w;
          appended = Appends-trans a b c w.output t.block.items w.appended p.1;
        }))
    by_finish (inr p) =
        subst (StopOf t.form (taken ++ front) a c) (sym p.0)
        (record {
          bytes = bytes_both taken front w.bytes front_bytes;
          made = all;
          later = [];
          ending = Faulty fault;
          read = subst (λ (rs : List Captured). IsReadAs (taken ++ front) rs (Faulty fault)) (sym (append-nil all)) read;
          output = w.output ++ t.block.items;
          tells = told_so_far [] t taken a b w;
          wrote = front-behind a b c w.output t.block.items w.appended p.1;
        })

-- first octets of a piece stop it
pub stopped_within : (form : Form) (taken piece : List ℕ) (count : ℕ) (a b : Option (List ℕ)) (answer : Status) → IsBytes piece
    → StopOf form (taken ++ take count piece) a b answer → StopOf form (taken ++ piece) a b answer
stopped_within form taken piece count a b answer bytes s =
    let all : (taken ++ take count piece) ++ drop count piece ≡ taken ++ piece =
    append_assoc taken (take count piece) (drop count piece) ∙ ap (λ (xs : List ℕ). taken ++ xs) (take-append-drop count piece) in
    subst (λ (xs : List ℕ). StopOf form xs a b answer) all
    (stop_longer form (taken ++ take count piece) (drop count piece) a b answer s (bytes_of_drop piece count bytes))

pub broken_piece : (t : Teller) (taken piece : List ℕ) (count : ℕ) (reading : Reading) (fault : PcapFault) (a b c : Option (List ℕ)) (given answer : Status)
    → Underway [] t taken a b → Takes t.reader (take count piece) reading → reading ≡ Stopped fault → IsBytes piece
    → given ≡ fault_status t.number fault → FinishOf given t.block.items b c answer → StopOf t.form (taken ++ piece) a c answer
broken_piece t taken piece count reading fault a b c given answer w takes is bytes told finish =
    let all : (taken ++ take count piece) ++ drop count piece ≡ taken ++ piece =
    append_assoc taken (take count piece) (drop count piece) ∙ ap (λ (xs : List ℕ). taken ++ xs) (take-append-drop count piece) in
    subst (λ (xs : List ℕ). StopOf t.form xs a c answer) all
    (broken t taken (take count piece) (drop count piece) fault a b c answer w
    (subst (λ (r : Reading). Takes t.reader (take count piece) r) is takes)
    (bytes_of_take piece count bytes) (bytes_of_drop piece count bytes)
    (subst (λ (s : Status). FinishOf s t.block.items b c answer) told finish))
