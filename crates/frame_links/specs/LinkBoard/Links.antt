-- What is seen of a link, and what its calls do to that.
use Rattle.std.specs.Prelude.{◌≡◌, ℕ, ◌≤◌, Bool, List, [], ◌∷◌, ◌++◌, take, Option, None, Some, Result, Ok, Err}
use Rattle.pdus.specs.ClnpBase.Streams.{Rose}
use Rattle.pdus.specs.ClnpBase.declared.streams.Failed.{Failed}
use Rattle.pdus.specs.declared.nsap.target.Target.{Target}
use Rattle.frame_links.specs.declared.link_board.link.Got.{Got}

-- a frame that came: the point of attachment from which it came, whether it came through a group, its octets
pub record CameFrame : Type 0 where
  pub from : List ℕ
  pub to_group : Bool
  pub octets : List ℕ

-- a frame that was sent: to whom, and its octets
pub record SentFrame : Type 0 where
  pub target : Target
  pub octets : List ℕ

-- What is seen of a link: its looks so far, each a frame or none, and the frames sent, where it tells them; how often it
-- failed, and how many looks were empty.
pub record LinkState : Type 0 where
  pub looks : Option (List (Option CameFrame))
  pub sent : Option (List SentFrame)
  pub faults : ℕ
  pub empties : ℕ

-- A list that is told grows by these; one that isn't told once isn't told later.
abbrev pub Grows : {A : Type 0} → Option (List A) → Option (List A) → List A → Type 0
Grows before None more = Unit {0}
Grows None (Some after) more = ⊥
Grows (Some before) (Some after) more = after ≡ before ++ more

-- what a look saw, where the buffer is left so
abbrev pub look_of : Option Got → List ℕ → Option CameFrame
look_of None buffer = None
look_of (Some got) buffer = Some (record { from = got.from; to_group = got.group; octets = take got.len buffer })

-- after a look that saw this
pub record Looked (before after : LinkState) (look : Option CameFrame) : Type 0 where
  pub looks : Grows before.looks after.looks (look ∷ [])
  pub sent : Grows before.sent after.sent []
  pub faults : before.faults ≤ after.faults
  pub empties : before.empties ≤ after.empties
  pub empty : look ≡ None → Rose before.empties after.empties

-- after a call in which the frame was sent
pub record SentOne (before after : LinkState) (frame : SentFrame) : Type 0 where
  pub looks : Grows before.looks after.looks []
  pub sent : Grows before.sent after.sent (frame ∷ [])
  pub faults : before.faults ≤ after.faults
  pub empties : before.empties ≤ after.empties

-- after a call that failed
pub record FailedOnce (before after : LinkState) : Type 0 where
  pub looks : Grows before.looks after.looks []
  pub sent : Grows before.sent after.sent []
  pub faults : before.faults ≤ after.faults
  pub failed : Rose before.faults after.faults
  pub empties : before.empties ≤ after.empties

-- What a call of `poll` comes to.
abbrev pub PollOf : LinkState → LinkState → List ℕ → Result (Option Got) Failed → Type 0
PollOf before after buffer (Ok look) = Looked before after (look_of look buffer)
PollOf before after buffer (Err _) = FailedOnce before after

-- What a call of `send` comes to.
abbrev pub SendOf : LinkState → LinkState → SentFrame → Result (Unit {0}) Failed → Type 0
SendOf before after frame (Ok _) = SentOne before after frame
SendOf before after frame (Err _) = FailedOnce before after
