-- Lines that are gone over one after another, in blocks.
use Rattle.std.proofs.Common.{◌≡◌, ℕ, List, [], ◌∷◌, ◌++◌, Option, Result, Ok, Err, ◌⊎◌, inl, inr, refl, sym, ap, ◌∙◌, append_assoc, append-nil}
use Rattle.std.specs.Io.KnownBytes.{Appends}
use Rattle.std.proofs.KnownBytes.{Appends-nil, Appends-trans}
use Rattle.clnp_base.specs.Streams.{AppendsFront}
use Rattle.clnp_base.specs.declared.command_base.block.LineFault.{LineFault}
use Rattle.clnp_base.specs.declared.command_base.block.LineFault.TheVariants as fault
use Rattle.clnp_base.specs.declared.command_base.status.Status.{Status}
use Rattle.clnp_base.specs.declared.command_base.status.Status.TheVariants as status
use Rattle.clnp_base.specs.declared.command_base.block.LineStop.{LineStop}
use Rattle.clnp_base.specs.declared.command_base.block.LineStop.TheVariants.{BadLine, WriteFault, NoMemory}
use Rattle.clnp_base.specs.CommandBase.Output.{AppendsCalled, AppendsCalledFront, AppendsCalledPart}
use Rattle.clnp_base.specs.CommandBase.ComesAs.{ComesAs}
use Rattle.clnp_base.specs.CommandBase.ByLine.{Work, Good, Bad, PushOf, BlockOf, BadOf, RefusalOf, Midway, CutOff, LeftOff, StopOf, NextOf, EndOf, stop_status, task_of}
use Rattle.clnp_base.proofs.CommandBase.Fronts.{front-behind, front-longer}

-- from every point on, all lines call for some output
abbrev pub Total : Work → Type 0
Total w = (lines : List (List ℕ)) (now : w.Point) → (output : List ℕ) × w.calls w.whole lines now output

-- an output that breaks off ends with nothing more
abbrev pub Breaks : Work → Type 0
Breaks w = (now : w.Point) → w.calls w.broken [] now []

pub Good-none : (w : Work) (now : w.Point) → Good w now now [] []
Good-none w now = record { behind = λ ending later rest calls. calls; answer = λ later answered is. is }

pub Good-more : (w : Work) (first between now : w.Point) (made more : List (List ℕ)) (output next : List ℕ)
    → Good w first between made output → Good w between now more next → Good w first now (made ++ more) (output ++ next)
Good-more w first between now made more output next g h = record {
  behind = λ ending later rest calls. rw (append_assoc made more later, append_assoc output next rest)
      (g.behind ending (more ++ later) (next ++ rest) (h.behind ending later rest calls));
  answer = λ later answered is. rw (append_assoc made more later) (g.answer (more ++ later) answered (h.answer later answered is));
}

pub start : (w : Work) (first : w.Point) (all : List (List ℕ)) (a : Option (List ℕ)) → Midway w first first all all a a []
start w first all a = record {
  made = [];
  waiting = [];
  split = refl;
  between = first;
  output = [];
  good = Good-none w first;
  appended = Appends-nil a;
  good_block = Good-none w first;
}

-- the next line is good
pub next_good : (w : Work) (first now next : w.Point) (all left : List (List ℕ)) (line : List ℕ) (a b : Option (List ℕ)) (block new output : List ℕ)
    → Midway w first now all (line ∷ left) a b block → Good w now next (line ∷ []) output → new ≡ block ++ output
    → Midway w first next all left a b new
next_good w first now next all left line a b block new output m g e =
    rw e (record {
      made = m.made;
      waiting = m.waiting ++ (line ∷ []);
      split = m.split ∙ ap (λ (t : List (List ℕ)). m.made ++ t) (sym (append_assoc m.waiting (line ∷ []) left));
      between = m.between;
      output = m.output;
      good = m.good;
      appended = m.appended;
      good_block = Good-more w m.between now next m.waiting (line ∷ []) block output m.good_block g;
    })

-- the lines whose output is written, and those whose output waits
joined : (w : Work) (first now : w.Point) (all left : List (List ℕ)) (a b : Option (List ℕ)) (block : List ℕ)
    → (m : Midway w first now all left a b block) → Good w first now (m.made ++ m.waiting) (m.output ++ block)
joined w first now all left a b block m = Good-more w first m.between now m.made m.waiting m.output block m.good m.good_block

-- the block is written
written : (w : Work) (first now : w.Point) (all left : List (List ℕ)) (a b c : Option (List ℕ)) (block : List ℕ)
    → Midway w first now all left a b block → Appends b c block → Midway w first now all left a c []
written w first now all left a b c block m p = record {
  made = m.made ++ m.waiting;
  waiting = [];
  split = m.split ∙ sym (append_assoc m.made m.waiting left);
  between = now;
  output = m.output ++ block;
  good = joined w first now all left a b block m;
  appended = Appends-trans a b c m.output block m.appended p;
  good_block = Good-none w now;
}

-- nothing is written
unwritten : (w : Work) (first now : w.Point) (all left : List (List ℕ)) (a b c : Option (List ℕ)) (block : List ℕ)
    → Midway w first now all left a b block → Appends b c [] → Midway w first now all left a c block
unwritten w first now all left a b c block m p = record {
  made = m.made;
  waiting = m.waiting;
  split = m.split;
  between = m.between;
  output = m.output;
  good = m.good;
  appended = rw (append-nil m.output) at (Appends-trans a b c m.output [] m.appended p);
  good_block = m.good_block;
}

-- only the output of the lines before the block is written
pub left_off : (w : Work) (first now : w.Point) (all left : List (List ℕ)) (a b c : Option (List ℕ)) (block : List ℕ)
    → Midway w first now all left a b block → Appends b c [] → LeftOff w first all a c
left_off w first now all left a b c block m p = record {
  made = m.made;
  later = m.waiting ++ left;
  split = m.split;
  now = m.between;
  output = m.output;
  good = m.good;
  appended = rw (append-nil m.output) at (Appends-trans a b c m.output [] m.appended p);
}

-- a front of the block is written
pub cut_off : (w : Work) (first now : w.Point) (all left : List (List ℕ)) (a b c : Option (List ℕ)) (block : List ℕ)
    → Midway w first now all left a b block → AppendsFront b c block → CutOff w first all a c
cut_off w first now all left a b c block m p = record {
  made = m.made ++ m.waiting;
  later = left;
  split = m.split ∙ sym (append_assoc m.made m.waiting left);
  now = now;
  output = m.output ++ block;
  good = joined w first now all left a b block m;
  appended = front-behind a b c m.output block m.appended p;
}

-- the block is written, and with it all that the lines that are left call for
pub ended : (w : Work) (first now : w.Point) (all left : List (List ℕ)) (a b c : Option (List ℕ)) (block rest : List ℕ) (answered : Status)
    → Midway w first now all left a b block → w.calls w.whole left now rest → w.answer left now answered → Appends b c (block ++ rest)
    → w.answer all first answered × AppendsCalled (w.calls w.whole all first) a c
ended w first now all left a b c block rest answered m calls is p =
    let good = joined w first now all left a b block m in
    let split : all ≡ (m.made ++ m.waiting) ++ left = m.split ∙ sym (append_assoc m.made m.waiting left) in (
      rw split (good.answer left answered is),
      record {
        output = m.output ++ (block ++ rest);
        called = rw (split, ← append_assoc m.output block rest) (good.behind w.whole left rest calls);
        appended = Appends-trans a b c m.output (block ++ rest) m.appended p;
      },
    )

-- a front of the block and of what the lines that are left call for is written
pub ended_early : (w : Work) (first now : w.Point) (all left : List (List ℕ)) (a b c : Option (List ℕ)) (block rest : List ℕ)
    → Midway w first now all left a b block → w.calls w.whole left now rest → AppendsFront b c (block ++ rest)
    → AppendsCalledFront (w.calls w.whole all first) a c
ended_early w first now all left a b c block rest m calls p =
    let good = joined w first now all left a b block m in
    let split : all ≡ (m.made ++ m.waiting) ++ left = m.split ∙ sym (append_assoc m.made m.waiting left) in
    record {
      output = m.output ++ (block ++ rest);
      called = rw (split, ← append_assoc m.output block rest) (good.behind w.whole left rest calls);
      appended = front-behind a b c m.output (block ++ rest) m.appended p;
    }

-- a front of the output of the lines that are done is one of the whole output
pub front_called : (w : Work) (first : w.Point) (all : List (List ℕ)) (a c : Option (List ℕ)) → Total w
    → CutOff w first all a c → AppendsCalledFront (w.calls w.whole all first) a c
front_called w first all a c total cut =
    let rest = total cut.later cut.now in
    record {
      output = cut.output ++ rest.0;
      called = rw cut.split (cut.good.behind w.whole cut.later rest.0 rest.1);
      appended = front-longer a c cut.output rest.0 cut.appended;
    }

-- the output of the lines that are done is a part of the whole output
pub part_called : (w : Work) (first : w.Point) (all : List (List ℕ)) (a c : Option (List ℕ)) → Total w → Breaks w
    → LeftOff w first all a c → AppendsCalledPart (w.calls w.whole all first) (λ made. w.calls w.broken made first) all a c
part_called w first all a c total breaks off =
    let rest = total off.later off.now in
    record {
      made = off.made;
      later = off.later;
      all = off.split;
      output = off.output;
      rest = rest.0;
      part = rw (append-nil off.made, append-nil off.output) at (off.good.behind w.broken [] [] (breaks off.now));
      called = rw off.split (off.good.behind w.whole off.later rest.0 rest.1);
      appended = off.appended;
    }

-- the block is written whole behind good lines, or it waits on
pub next_written : (w : Work) (first now : w.Point) (all left : List (List ℕ)) (a b c : Option (List ℕ)) (block new : List ℕ)
    → Midway w first now all left a b block → (Appends b c block × (new ≡ [])) ⊎ (Appends b c [] × (new ≡ block))
    → Midway w first now all left a c new
next_written w first now all left a b c block new m (inl p) = rw p.1 (written w first now all left a b c block m p.0)
next_written w first now all left a b c block new m (inr p) = rw p.1 (unwritten w first now all left a b c block m p.0)

-- writing the block failed behind good lines
pub next_failed : (A : Type 0) (w : Work) (first now : w.Point) (all left : List (List ℕ)) (number : ℕ) (a b c : Option (List ℕ)) (block new : List ℕ) (stop : LineStop)
    → Midway w first now all left a b block → BlockOf {A = A} block new b c (Err stop) → StopOf w first all number a c stop
next_failed A w first now all left number a b c block new WriteFault m p = cut_off w first now all left a b c block m p
next_failed A w first now all left number a b c block new (BadLine code) m p = absurd p
next_failed A w first now all left number a b c block new NoMemory m p = absurd p

-- writing a block behind good lines
pub next_block : {A : Type 0} (w : Work) (first now : w.Point) (all left : List (List ℕ)) (number : ℕ) (a b c : Option (List ℕ)) (block new : List ℕ) (r : Result A LineStop)
    → Midway w first now all left a b block → BlockOf block new b c r → NextOf w first (λ x. now) all left number a c new r
next_block w first now all left number a b c block new (Ok x) m p = next_written w first now all left a b c block new m p
next_block {A = A} w first now all left number a b c block new (Err stop) m p = next_failed A w first now all left number a b c block new stop m p

-- stopping at a bad line
bad_line : (w : Work) (first now : w.Point) (all left : List (List ℕ)) (line : List ℕ) (number code : ℕ) (a b c : Option (List ℕ)) (block : List ℕ) (stop : LineStop)
    → Midway w first now all (line ∷ left) a b block → Bad w now line number code → BadOf code block b c stop
    → StopOf w first all number a c stop
bad_line w first now all left line number code a b c block WriteFault m bad p = cut_off w first now all (line ∷ left) a b c block m p
bad_line w first now all left line number code a b c block (BadLine other) m bad p =
    rw p.0 (ended w first now all (line ∷ left) a b c block [] (status.BadInput number code) m (bad.stops left) (bad.answer left) (rw (append-nil block) p.1))
bad_line w first now all left line number code a b c block NoMemory m bad p = absurd p

-- stopping at a line at fault
pub refused_line : {A : Type 0} (w : Work) (first now : w.Point) (next : A → w.Point) (all left : List (List ℕ)) (line : List ℕ) (number : ℕ) (a b c : Option (List ℕ)) (block new : List ℕ) (refused : LineFault) (r : Result A LineFault) (stop : LineStop)
    → Midway w first now all (line ∷ left) a b block → r ≡ Err refused → PushOf w now next number line block new r → RefusalOf refused new b c stop
    → StopOf w first all number a c stop
refused_line w first now next all left line number a b c block new (fault.Bad code) r stop m is pushed p =
    let bad = rw is at pushed in
    let here : Midway w first now all (line ∷ left) a b new = rw bad.1 m in
    bad_line w first now all left line number code a b c new stop here bad.0 p
refused_line w first now next all left line number a b c block new fault.NoMemory r stop m is pushed p =
    rw p.0 (left_off w first now all (line ∷ left) a b c block m p.1)

-- a command stopped at a line
pub stopped : (w : Work) (first : w.Point) (all : List (List ℕ)) (number : ℕ) (a b : Option (List ℕ)) (stop : LineStop) → Total w → Breaks w
    → StopOf w first all number a b stop → ComesAs (task_of w first all) a b (stop_status number stop)
stopped w first all number a b (BadLine code) total breaks s = s
stopped w first all number a b WriteFault total breaks s = front_called w first all a b total s
stopped w first all number a b NoMemory total breaks s = inr (part_called w first all a b total breaks s)

-- no line is left, and the block was written
pub all_done : (w : Work) (first now : w.Point) (all left : List (List ℕ)) (a b c : Option (List ℕ)) (block : List ℕ) → left ≡ []
    → w.calls w.whole [] now [] → w.answer [] now status.Done
    → Midway w first now all left a b block → Appends b c block → ComesAs (task_of w first all) a c status.Done
all_done w first now all left a b c block none calls is m p =
    ended w first now all [] a b c block [] status.Done (rw none at m) calls is (rw (append-nil block) p)

-- no line is left, and a front of the block was written
pub all_cut : (w : Work) (first now : w.Point) (all left : List (List ℕ)) (a b c : Option (List ℕ)) (block : List ℕ) → left ≡ []
    → w.calls w.whole [] now [] → Midway w first now all left a b block → AppendsFront b c block → ComesAs (task_of w first all) a c status.WriteFault
all_cut w first now all left a b c block none calls m p =
    ended_early w first now all [] a b c block [] (rw none at m) calls (rw (append-nil block) p)

-- no line is left, and the end of the output was to be written behind the block
pub all_ended : (w : Work) (first now : w.Point) (all left : List (List ℕ)) (a b c : Option (List ℕ)) (block rest : List ℕ) (answered : Status)
    → Total w → Breaks w → left ≡ [] → w.calls w.whole [] now rest → w.answer [] now status.Done
    → Midway w first now all left a b block → EndOf (block ++ rest) b c answered → ComesAs (task_of w first all) a c answered
all_ended w first now all left a b c block rest status.Done total breaks none calls is m p =
    ended w first now all [] a b c block rest status.Done (rw none at m) calls is p
all_ended w first now all left a b c block rest status.WriteFault total breaks none calls is m p =
    ended_early w first now all [] a b c block rest (rw none at m) calls p
all_ended w first now all left a b c block rest status.NoMemory total breaks none calls is m p =
    inr (part_called w first all a c total breaks (left_off w first now all left a b c block m p))
all_ended w first now all left a b c block rest (status.BadWords at) total breaks none calls is m p = absurd p
all_ended w first now all left a b c block rest status.TooLong total breaks none calls is m p = absurd p
all_ended w first now all left a b c block rest (status.BadInput line code) total breaks none calls is m p = absurd p
all_ended w first now all left a b c block rest (status.WorldFull octets) total breaks none calls is m p = absurd p
all_ended w first now all left a b c block rest status.ReadFault total breaks none calls is m p = absurd p
all_ended w first now all left a b c block rest (status.LinksGone links) total breaks none calls is m p = absurd p
