-- What lines say where each of their notes is honest, and lines of no refusal.
use Rattle.clnp_machine.proofs.ClnpBase.Lists.{AllByRecursion-implies}
use Rattle.std.proofs.Common.{◌≡◌, ℕ, List, [], ◌∷◌, inl, inr, subst}
use Rattle.clnp_machine.specs.ClnpPlan.Journal.{Line, Noted}
use Rattle.clnp_machine.specs.ClnpPlan.declared.note.Note.{Note}
use Rattle.clnp_machine.specs.ClnpPlan.declared.note.Note.TheVariants.{Refused, Got, Report, Echoed, Interference, Restart}
use Rattle.clnp_machine.specs.ScenarioPlan.Plan.{Plan}
use Rattle.clnp_machine.specs.ClnpNetwork.LabelledNetwork.{LabelledNetwork}
use Rattle.clnp_machine.specs.ClnpNetwork.Run.{Entry}
use Rattle.clnp_machine.specs.ClnpNetwork.Safe.{HandsUp, IsFounded, NoRefusal, NoInterference, SaysNoRestart, WasSent}
use Rattle.std.specs.List.{AllByRecursion}
use Rattle.clnp_machine.specs.EveryStep.{IsNoRestart}
use Rattle.clnp_machine.specs.Told.{NoteIsQuiet}
use Rattle.clnp_safety.proofs.Steps.{ChangingIsFine, GivingIsFine}
use Rattle.clnp_safety.proofs.Honest.{NoteIsHonest}

-- a line notes only what Q holds of, beside the name of the system that notes it
abbrev pub LineIs : (List ℕ → Note → Type 0) → Line → Type 0
LineIs Q (Noted now name note) = Q name note
LineIs Q _ = Unit {0}

-- any line will do
abbrev pub AnyLine : Line → Type 0
AnyLine line = Unit {0}

pub any_line_is_fine : GivingIsFine AnyLine
any_line_is_fine = record {
  void = λ now name copy. tt;
  late = λ now name copy. tt;
  received = λ now name copy port. tt;
  lost = λ now copy. tt;
  nobody = λ now copy. tt;
}

pub any_line_changes : ChangingIsFine AnyLine
any_line_changes = record {
  port = λ now name number subnet snpa. tt;
  route = λ now name prefix. tt;
  unroute = λ now name prefix there. tt;
  resized = λ now subnet mtu. tt;
}

line_is : (P Q : List ℕ → Note → Type 0) → ((name : List ℕ) (note : Note) → P name note → Q name note) → (line : Line) → LineIs P line → LineIs Q line
line_is P Q f (Noted now name note) h = f name note h
line_is P Q f _ h = tt

pub lines_are : (P Q : List ℕ → Note → Type 0) → ((name : List ℕ) (note : Note) → P name note → Q name note) → (lines : List Line)
    → AllByRecursion (LineIs P) lines → AllByRecursion (LineIs Q) lines
lines_are P Q f lines h = AllByRecursion-implies (LineIs P) (LineIs Q) (line_is P Q f) lines h

-- what lines hand up was sent
abbrev pub LinesAreHonest : Plan → List Entry → List Line → Type 0
LinesAreHonest plan past lines = (from to octets : List ℕ) → HandsUp lines from to octets → WasSent plan past from to octets

pub sent_alike : (plan : Plan) (past : List Entry) (source destination handed from to octets : List ℕ) → source ≡ from → destination ≡ to → handed ≡ octets
    → WasSent plan past source destination handed → WasSent plan past from to octets
sent_alike plan past source destination handed from to octets a b c h =
    subst (λ x. WasSent plan past from to x) c (subst (λ x. WasSent plan past from x handed) b (subst (λ x. WasSent plan past x destination handed) a h))

module _ (plan : Plan) (past : List Entry) (w : LabelledNetwork) where
  -- each note of the lines is honest
  abbrev pub LinesAreSound : List Line → Type 0
  LinesAreSound lines = AllByRecursion (LineIs (NoteIsHonest plan past w)) lines

  -- where each note is honest, only units are handed up that were sent
  pub lines_are_honest : (lines : List Line) → LinesAreSound lines → LinesAreHonest plan past lines
  lines_are_honest [] h from to octets up = absurd up
  lines_are_honest (Noted now name (Got source destination handed) ∷ lines) h from to octets up =
      elim up [
        | inl this ↦ sent_alike plan past source destination handed from to octets this.0 this.1 this.2 h.0
        | inr later ↦ lines_are_honest lines h.1 from to octets later
      ]
  lines_are_honest (_ ∷ lines) h from to octets up = lines_are_honest lines h.1 from to octets up

  -- and nothing interferes
  pub lines_are_apart : (lines : List Line) → LinesAreSound lines → NoInterference lines
  lines_are_apart [] h = tt
  lines_are_apart (Noted now name (Interference id) ∷ lines) h = h.0
  lines_are_apart (_ ∷ lines) h = lines_are_apart lines h.1

  line_is_founded : (line : Line) → LineIs (NoteIsHonest plan past w) line → IsFounded w past line
  line_is_founded (Noted now name (Report from to reason place octets)) h = h
  line_is_founded (Noted now name (Echoed from to number)) h = h
  line_is_founded _ h = tt

  -- and what is said of reports and replies is founded
  pub lines_are_founded : (lines : List Line) → LinesAreSound lines → AllByRecursion (IsFounded w past) lines
  lines_are_founded lines h = AllByRecursion-implies (LineIs (NoteIsHonest plan past w)) (IsFounded w past) line_is_founded lines h

  pub quiet_is_honest : (name : List ℕ) (note : Note) → NoteIsQuiet note → NoteIsHonest plan past w name note
  quiet_is_honest name (Got from to octets) h = absurd h
  quiet_is_honest name (Report from to reason place octets) h = absurd h
  quiet_is_honest name (Echoed from to number) h = absurd h
  quiet_is_honest name (Interference id) h = h
  quiet_is_honest name _ h = tt

no_restart_said : (name other : List ℕ) (note : Note) (now : ℕ) → IsNoRestart note → SaysNoRestart name (Noted now other note)
no_restart_said name other Restart now h = absurd h
no_restart_said name other _ now h = tt

line_says_no_restart : (name : List ℕ) (line : Line) → LineIs (λ other. IsNoRestart) line → SaysNoRestart name line
line_says_no_restart name (Noted now other note) h = no_restart_said name other note now h
line_says_no_restart name _ h = tt

-- where no restart is noted, none is said of a system
pub lines_say_no_restart : (name : List ℕ) (lines : List Line) → AllByRecursion (LineIs (λ other. IsNoRestart)) lines → AllByRecursion (SaysNoRestart name) lines
lines_say_no_restart name lines h =
    AllByRecursion-implies (LineIs (λ other. IsNoRestart)) (SaysNoRestart name) (line_says_no_restart name) lines h

-- quiet lines refuse nothing
pub quiet_lines_refuse_nothing : (lines : List Line) → AllByRecursion (LineIs (λ name. NoteIsQuiet)) lines → NoRefusal lines
quiet_lines_refuse_nothing [] h = tt
quiet_lines_refuse_nothing (Noted now name (Refused why value) ∷ lines) h = h.0
quiet_lines_refuse_nothing (_ ∷ lines) h = quiet_lines_refuse_nothing lines h.1
