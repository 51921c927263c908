-- Copies stay for good, and are settled one after another, until there are too many.
use Rattle.std.specs.Prelude.{◌≡◌, ℕ, ◌≤◌, true, List, ◌++◌, length, Some}
use Rattle.clnp_machine.specs.Pdus.declared.nsap.target.Target.{Target}
use Rattle.clnp_machine.specs.ClnpPlan.Journal.{Line, Transmitted}
use Rattle.clnp_machine.specs.Content.{frame_of}
use Rattle.clnp_machine.specs.ClnpNetwork.LabelledNetwork.{Copy, LabelledNetwork, copy_numbered, is_full, weight}

-- the first list is a front of the second
abbrev pub IsFront : {A : Type 0} → List A → List A → Type 0
IsFront {A} xs ys = (more : List A) × (ys ≡ xs ++ more)

-- no more copies are settled than there are
abbrev pub IsWithinCopies : LabelledNetwork → Type 0
IsWithinCopies w = w.cursor ≤ length w.copies

-- the world is full, and weighs so much
pub record IsFullAt (w : LabelledNetwork) (weighs : ℕ) : Type 0 where
  pub full : is_full w ≡ true
  pub weight : weight w ≡ weighs

-- the copy with a number is for a target, and its frame is these octets
pub record IsCopyAt (copies : List Copy) (number : ℕ) (target : Target) (octets : List ℕ) : Type 0 where
  pub copy : Copy
  pub there : copy_numbered number copies ≡ Some copy
  pub for_target : copy.target ≡ target
  pub carries : frame_of copy.content ≡ octets

-- where a line tells of a transmission it is the copy with its number
abbrev pub TellsItsCopy : List Copy → Line → Type 0
TellsItsCopy copies (Transmitted now name number port target octets) = IsCopyAt copies number target octets
TellsItsCopy copies _ = Unit {0}
