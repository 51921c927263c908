-- What holds of a part of a run, or of a run; what more outcomes change; and of which call an outcome is.
use Rattle.std.specs.Prelude.{◌≡◌, ℕ, ◌==◌, Bool, true, false, List, [], ◌∷◌, ◌++◌}
use Rattle.clnp_machine.specs.LiveModel.Lines.{NodeLine}
use Rattle.clnp_machine.specs.LiveModel.Node.{Node, Outcome, Saw, LookFailed, Took, SendFailed, Played, Goes, Ends, Strays}
use Rattle.clnp_machine.specs.LiveModel.Course.{Course, Runs, IsOver, Breaks, IsNone}

-- the first list is a front of the second
abbrev pub IsFront : {A : Type 0} → List A → List A → Type 0
IsFront {A} xs ys = (more : List A) × (ys ≡ xs ++ more)

-- where a part comes to anything, its lines begin with these
abbrev pub BeginsWith : List NodeLine → Played → Type 0
BeginsWith lines (Goes node left others) = IsFront lines others
BeginsWith lines (Ends node others) = IsFront lines others
BeginsWith lines Strays = Unit {0}

-- What a part comes to with more outcomes behind its own: where it was over, these are left; where its own ended within it, what
-- it writes begins with what it wrote by then; and where its own are those of other calls, so are these together.
abbrev pub IsLonger : (later : List Outcome) → Played → Played → Type 0
IsLonger later (Goes node left lines) longer = longer ≡ Goes node (left ++ later) lines
IsLonger later (Ends node lines) longer = BeginsWith lines longer
IsLonger later Strays longer = longer ≡ Strays

-- the outcomes end within a part
abbrev pub IsUnfinished : Played → Type 0
IsUnfinished (Goes node left lines) = ⊥
IsUnfinished (Ends node lines) = Unit {0}
IsUnfinished Strays = ⊥

-- a call on a port's link: a look at it, or a frame sent on it
pub data Call : Type 0 where
  LooksAt : (port : ℕ) → Call
  SendsOn : (port : ℕ) → Call

abbrev pub call_of : Outcome → Call
call_of (Saw port look) = LooksAt port
call_of (LookFailed port) = LooksAt port
call_of (Took port) = SendsOn port
call_of (SendFailed port) = SendsOn port

-- whether an outcome is one of a call
abbrev pub is_of : Call → Outcome → Bool
is_of (LooksAt port) (Saw at look) = at == port
is_of (LooksAt port) (LookFailed at) = at == port
is_of (LooksAt port) (Took at) = false
is_of (LooksAt port) (SendFailed at) = false
is_of (SendsOn port) (Saw at look) = false
is_of (SendsOn port) (LookFailed at) = false
is_of (SendsOn port) (Took at) = at == port
is_of (SendsOn port) (SendFailed at) = at == port

-- all outcomes of a part were used, and they stray nowhere
abbrev pub UsesAll : Played → Type 0
UsesAll (Goes node [] lines) = Unit {0}
UsesAll (Goes node (outcome ∷ left) lines) = ⊥
UsesAll (Ends node lines) = Unit {0}
UsesAll Strays = ⊥

-- Behind some outcomes of a part comes that of one call: whichever of its outcomes it is, the part goes on; with one of another
-- call they stray, whatever follows.
pub record HasNextCall (play : List Outcome → Played) (outcomes : List Outcome) : Type 0 where
  pub call : Call
  pub follows : (outcome : Outcome) → is_of call outcome ≡ true → UsesAll (play (outcomes ++ outcome ∷ []))
  pub strays : (outcome : Outcome) (rest : List Outcome) → is_of call outcome ≡ false
      → play (outcomes ++ outcome ∷ rest) ≡ Strays

-- what holds of a run whose turns are all over, of the node after them and of the lines
abbrev pub IfWhole : Course → (Node → List NodeLine → Type 0) → Type 0
IfWhole (Runs node lines) P = P node lines
IfWhole (IsOver node lines) P = P node lines
IfWhole (Breaks node lines) P = Unit {0}
IfWhole IsNone P = Unit {0}

-- what holds of a run of whatever length
abbrev pub IfAny : Course → (Node → List NodeLine → Type 0) → Type 0
IfAny (Runs node lines) P = P node lines
IfAny (IsOver node lines) P = P node lines
IfAny (Breaks node lines) P = P node lines
IfAny IsNone P = Unit {0}

-- what holds of a run after which turns may follow
abbrev pub IfRuns : Course → (Node → List NodeLine → Type 0) → Type 0
IfRuns (Runs node lines) P = P node lines
IfRuns (IsOver node lines) P = Unit {0}
IfRuns (Breaks node lines) P = Unit {0}
IfRuns IsNone P = Unit {0}

-- what holds of a run that ends within a turn
abbrev pub IfBreaks : Course → (Node → List NodeLine → Type 0) → Type 0
IfBreaks (Runs node lines) P = Unit {0}
IfBreaks (IsOver node lines) P = Unit {0}
IfBreaks (Breaks node lines) P = P node lines
IfBreaks IsNone P = Unit {0}

-- where a run comes to anything, its lines begin with these
abbrev pub CourseBeginsWith : List NodeLine → Course → Type 0
CourseBeginsWith lines course = IfAny course (λ node others. IsFront lines others)
