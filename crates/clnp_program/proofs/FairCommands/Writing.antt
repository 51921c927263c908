-- The lines of frames that are taken in one by one, in blocks.
use Rattle.std.proofs.Common.{◌≡◌, ℕ, List, [], ◌∷◌, ◌++◌, inl, inr, length, Option, Result, Ok, Err, refl, sym, ap, ◌∙◌, subst, append_assoc, append-nil}
use Rattle.std.specs.List.{flat_map}
use Rattle.std.specs.Io.KnownBytes.{Appends}
use Rattle.std.proofs.KnownBytes.{Appends-kept, Appends-nil, Appends-trans}
use Rattle.std.proofs.lemmas.Grind.{flat_map-append}
use Rattle.scenario.specs.ClnpBase.Streams.{AppendsFront}
use Rattle.clnp_program.specs.FairCommands.Grammar.{Capture}
use Rattle.clnp_program.specs.FairCommands.Output.{account_text, end_line, frames_text, output_of}
use Rattle.system_tables.specs.declared.fair_reassembly.came.Came.{Came}
use Rattle.system_tables.specs.FairReassembly.Behind.{StandBehind}
use Rattle.system_tables.specs.FairReassembly.Classes.{Shares, account_behind, accounts, each_behind}
use Rattle.system_tables.specs.FairReassembly.Tables.{FairState}
use Rattle.clnp_base.specs.CommandBase.ByLine.{FlushOf}
use Rattle.clnp_base.proofs.CommandBase.Fronts.{front-behind, front-longer}
use Rattle.clnp_program.specs.declared.fair_commands.joining.Stop.{Stop}
use Rattle.clnp_program.specs.declared.fair_commands.joining.Stop.TheVariants.{WriteFault, NoMemory}
use Rattle.clnp_program.specs.FairCommands.Frames.{GoesOn}
use Rattle.clnp_program.specs.FairCommands.Reassemble.{AppendsFrames}
use Rattle.clnp_program.specs.FairCommands.Writing.{EndOf, JoinOf, StopOf, UnderWay}

-- the law that what is told goes on
abbrev pub ToldGoesOn : Type 0
ToldGoesOn = (s : Shares) (before later : List Came) → accounts s (before ++ later) ≡ accounts s before ++ each_behind (account_behind s) before later

module _ (law : ToldGoesOn) (s : Shares) where
  -- the lines of frames, and of others behind them
  text_longer : (frames later : List Came) → frames_text s (frames ++ later) ≡ frames_text s frames ++ flat_map account_text (each_behind (account_behind s) frames later)
  text_longer frames later =
      ap (λ l. flat_map account_text l) (law s frames later) ∙ flat_map-append account_text (accounts s frames) (each_behind (account_behind s) frames later)

  text_of_one_more : (frames : List Came) (came : Came) → frames_text s (frames ++ came ∷ []) ≡ frames_text s frames ++ account_text (account_behind s frames came)
  text_of_one_more frames came =
      text_longer frames (came ∷ []) ∙ ap (λ (text : List ℕ). frames_text s frames ++ text) (append-nil (account_text (account_behind s frames came)))

  -- one frame more was taken in
  pub one_more : (frames : List Came) (came : Came) (state next : FairState) (a b : Option (List ℕ)) (block new : List ℕ)
      → UnderWay s frames state a b block → GoesOn s frames came next block new → UnderWay s (frames ++ came ∷ []) next a b new
  one_more frames came state next a b block new u g =
      let line = account_text (account_behind s frames came) in
      record {
        made = u.made;
        waiting = u.waiting ++ came ∷ [];
        split = ap (λ (l : List Came). l ++ came ∷ []) u.split ∙ append_assoc u.made u.waiting (came ∷ []);
        behind = g.behind;
        appended = u.appended;
        waits = text_of_one_more frames came
            ∙ ap (λ (text : List ℕ). text ++ line) u.waits
            ∙ append_assoc (frames_text s u.made) block line
            ∙ ap (λ (text : List ℕ). frames_text s u.made ++ text) (sym g.told);
      }

  -- where taking in some frames stopped, so did taking in all of them
  pub stopped_before : (frames later all : List Came) (a b : Option (List ℕ)) (stop : Stop) → all ≡ frames ++ later → StopOf s frames a b stop → StopOf s all a b stop
  stopped_before frames later all a b WriteFault split q =
      subst (λ (text : List ℕ). AppendsFront a b text) (sym (ap (frames_text s) split ∙ text_longer frames later)) (front-longer a b _ _ q)
  stopped_before frames later all a b NoMemory split q = record {
    made = q.made;
    later = q.later ++ later;
    all = split ∙ ap (λ (l : List Came). l ++ later) q.all ∙ append_assoc q.made q.later later;
    appended = q.appended;
  }

-- no frame was taken in yet, and nothing waits
pub set_out : (s : Shares) (state : FairState) (a : Option (List ℕ)) → StandBehind s [] state → UnderWay s [] state a a []
set_out s state a behind = record {
  made = [];
  waiting = [];
  split = refl;
  behind = behind;
  appended = Appends-nil a;
  waits = refl;
}

module _ (s : Shares) (frames : List Came) (state : FairState) (a b c : Option (List ℕ)) (block : List ℕ) (u : UnderWay s frames state a b block) where
  -- the block was written
  flushed : Appends b c block → UnderWay s frames state a c []
  flushed p = record {
    made = frames;
    waiting = [];
    split = sym (append-nil frames);
    behind = u.behind;
    appended = rw u.waits (Appends-trans a b c (frames_text s u.made) block u.appended p);
    waits = sym (append-nil (frames_text s frames));
  }

  -- nothing was written
  waited : Appends b c [] → UnderWay s frames state a c block
  waited p = record {
    made = u.made;
    waiting = u.waiting;
    split = u.split;
    behind = u.behind;
    appended = rw (append-nil (frames_text s u.made)) at (Appends-trans a b c (frames_text s u.made) [] u.appended p);
    waits = u.waits;
  }

  -- the block was written where it was full
  pub block_written : (E : Type 0) (new : List ℕ) (x : Unit {0}) → FlushOf {E = E} block new b c (Ok x) → UnderWay s frames state a c new
  block_written E new x (inl p) = rw p.1 (flushed p.0)
  block_written E new x (inr p) = rw p.1 (waited p.0)

  -- a front of the block was written
  pub cut_short : AppendsFront b c block → StopOf s frames a c WriteFault
  cut_short p = rw u.waits (front-behind a b c (frames_text s u.made) block u.appended p)

-- memory was refused: what was written is the lines of some frames
pub refused_memory : (s : Shares) (frames more : List Came) (state : FairState) (a b : Option (List ℕ)) (block : List ℕ)
    → UnderWay s frames state a b block → AppendsFrames s (frames ++ more) a b
refused_memory s frames more state a b block u = record {
  made = u.made;
  later = u.waiting ++ more;
  all = ap (λ (l : List Came). l ++ more) u.split ∙ append_assoc u.made u.waiting more;
  appended = u.appended;
}

-- the whole output where all frames were taken in: what is written, the block, and the last line
whole : (capture : Capture) (state : FairState) (a b : Option (List ℕ)) (block : List ℕ) → (u : UnderWay capture.shares capture.frames state a b block)
    → output_of capture ≡ frames_text capture.shares u.made ++ (block ++ end_line (length capture.frames))
whole capture state a b block u =
    ap (λ (text : List ℕ). text ++ end_line (length capture.frames)) u.waits
    ∙ append_assoc (frames_text capture.shares u.made) block (end_line (length capture.frames))

-- the block and the last line behind all frames
pub join_ended : {A : Type 0} (capture : Capture) (state : FairState) (a b c : Option (List ℕ)) (block : List ℕ) (r : Result A Stop)
    → UnderWay capture.shares capture.frames state a b block → EndOf (block ++ end_line (length capture.frames)) b c r → JoinOf capture a c r
join_ended capture state a b c block (Ok x) u q =
    rw (whole capture state a b block u) (Appends-trans a b c _ _ u.appended q)
join_ended capture state a b c block (Err WriteFault) u q =
    rw (whole capture state a b block u) (front-behind a b c _ _ u.appended q)
join_ended capture state a b c block (Err NoMemory) u q = record {
  made = u.made;
  later = u.waiting;
  all = u.split;
  appended = Appends-kept a b c _ u.appended q;
}

pub join_stopped : (A : Type 0) (capture : Capture) (a b : Option (List ℕ)) (stop : Stop) → StopOf capture.shares capture.frames a b stop → JoinOf {A = A} capture a b (Err stop)
join_stopped A capture a b WriteFault q = front-longer a b _ (end_line (length capture.frames)) q
join_stopped A capture a b NoMemory q = q
