-- What a trace tells of a copy that is given, settled or lost.
use Rattle.std.specs.Prelude.{◌≡◌, ℕ, ◌+◌, Bool, true, false, if◌then◌else◌, List, [], ◌∷◌, map}
use Rattle.std.specs.List.{filter}
use Rattle.clnp_machine.specs.ClnpPlan.Journal.{Line, Late, Received, Lost, ForNobody}
use Rattle.clnp_machine.specs.ClnpPlan.declared.config.Limits.{Limits}
use Rattle.clnp_machine.specs.System.{SystemState}
use Rattle.clnp_machine.specs.Step.{step}
use Rattle.clnp_machine.specs.ClnpNetwork.LabelledNetwork.{Copy, Numbered, LabelledNetwork, first_port, frame_to, give, is_addressee, is_late, lose_one, settle_one, takes_effect}

-- whether a line tells what becomes of a copy
abbrev pub tells_of_copy : Line → Bool
tells_of_copy (Late now name copy) = true
tells_of_copy (Received now name copy port) = true
tells_of_copy (Lost now copy) = true
tells_of_copy (ForNobody now copy) = true
tells_of_copy _ = false

-- what is told of a copy that is given to a system: that it is too old, or by which of its ports it comes
abbrev pub told_to : Limits → LabelledNetwork → Numbered → SystemState → Line
told_to limits w given system =
    if is_late limits w given.copy then Late system.moment system.configuration.name given.number
    else Received system.moment system.configuration.name given.number (first_port given.copy system.configuration.role system.attached.ports)

-- those of some systems that a copy is for
abbrev pub addressees_of : Copy → List SystemState → List SystemState
addressees_of copy systems = filter (is_addressee copy) systems

-- some lines; where there is none, that a copy is for nobody
abbrev pub or_nobody : (now number : ℕ) → List Line → List Line
or_nobody now number [] = ForNobody now number ∷ []
or_nobody now number (line ∷ lines) = line ∷ lines

-- what is told to some systems
abbrev pub told_to_each : Limits → LabelledNetwork → Numbered → List SystemState → List Line
told_to_each limits w given systems = map (told_to limits w given) systems

-- what is told of a copy that is settled: to each of its addressees once, in the order of the declarations
abbrev pub told_of_settled : Limits → LabelledNetwork → Numbered → List Line
told_of_settled limits w given = or_nobody w.clock given.number (told_to_each limits w given (addressees_of given.copy w.systems))

-- What is told of the copy at the cursor: where it is settled, to each of its addressees once, or that it is for nobody; where
-- it is lost, that it is.
pub record TellsOnce (limits : Limits) (w : LabelledNetwork) (copy : Copy) : Type 0 where
  pub settled : filter tells_of_copy (settle_one limits w).lines ≡ told_of_settled limits w (record { number = w.cursor + 1; copy = copy })
  pub lost : (lose_one w).lines ≡ Lost w.clock (w.cursor + 1) ∷ []
  pub settled_next : (settle_one limits w).world.cursor ≡ w.cursor + 1
  pub lost_next : (lose_one w).world.cursor ≡ w.cursor + 1

-- What the giving of a copy to a system writes: first what is told of the copy, and then what came of it, in which nothing is told
-- of copies: what the system gives out where it takes the copy in, and nothing where the copy is too old.
pub record GivesAsTold (limits : Limits) (given : Numbered) (w : LabelledNetwork) (place : ℕ) (system : SystemState) : Type 0 where
  pub caused : List Line
  pub lines : (give limits given w place).lines ≡ told_to limits w given system ∷ caused
  pub quiet : filter tells_of_copy caused ≡ []
  pub late : is_late limits w given.copy ≡ true → caused ≡ []
  pub soon : is_late limits w given.copy ≡ false
      → caused ≡ (takes_effect w place (step system (frame_to system given.copy))).lines
