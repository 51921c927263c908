-- Ports, each with the link that is there until it is dropped.
use Rattle.std.specs.Prelude.{◌≡◌, ◌≢◌, ℕ, Bool, true, false, List, slice_get, Option, None, Some}
use Rattle.std.specs.List.{slice_set}
use Rattle.frame_links.specs.LinkBoard.Links.{CameFrame, SentFrame, LinkState, Looked, SentOne, FailedOnce, look_of}
use Rattle.frame_links.specs.declared.link_board.ports.Polled.{Polled}
use Rattle.frame_links.specs.declared.link_board.ports.Polled.TheVariants as polled
use Rattle.frame_links.specs.declared.link_board.ports.Sent.{Sent}
use Rattle.frame_links.specs.declared.link_board.ports.Sent.TheVariants as sent

pub record PortState : Type 0 where
  -- what is seen of its link, until that is dropped
  pub link : Option LinkState
  pub attached : Bool

abbrev pub is_attached : Option PortState → Bool
is_attached None = false
is_attached (Some port) = port.attached

-- whether the port at this place is there and its link attached
abbrev pub is_attached_at : ℕ → List PortState → Bool
is_attached_at place ports = is_attached (slice_get ports place)

-- a look at the port, whose link stays attached, saw this
pub record LooksAt (before after : PortState) (look : Option CameFrame) : Type 0 where
  pub old : LinkState
  pub new : LinkState
  pub was : before.link ≡ Some old
  pub is : after.link ≡ Some new
  pub looked : Looked old new look
  pub attached : after.attached ≡ true

-- the frame was sent on the port, whose link stays attached
pub record SendsOn (before after : PortState) (frame : SentFrame) : Type 0 where
  pub old : LinkState
  pub new : LinkState
  pub was : before.link ≡ Some old
  pub is : after.link ≡ Some new
  pub sent : SentOne old new frame
  pub attached : after.attached ≡ true

-- the port's link failed, and is detached
pub record Detaches (before after : PortState) : Type 0 where
  pub old : LinkState
  pub new : LinkState
  pub was : before.link ≡ Some old
  pub is : after.link ≡ Some new
  pub failed : FailedOnce old new
  pub attached : after.attached ≡ false

-- What a look at a port comes to.
abbrev pub PolledOf : PortState → PortState → List ℕ → Polled → Type 0
PolledOf before after buffer (polled.Frame got) = LooksAt before after (look_of (Some got) buffer)
PolledOf before after buffer polled.Nothing = LooksAt before after None
PolledOf before after buffer polled.Detached = Detaches before after

-- What sending a frame on a port comes to.
abbrev pub SentOf : PortState → PortState → SentFrame → Sent → Type 0
SentOf before after frame sent.Done = SendsOn before after frame
SentOf before after frame sent.Detached = Detaches before after

-- The port at a place changes so, and nothing else changes.
pub record ChangesPort (place : ℕ) (before after : List PortState) (P : PortState → PortState → Type 0) : Type 0 where
  pub old : PortState
  pub new : PortState
  pub was : slice_get before place ≡ Some old
  pub others : after ≡ slice_set before place new
  pub changed : P old new

-- what stands at every other place is the very same
abbrev pub KeepsOthers : {A : Type 0} → ℕ → List A → List A → Type 0
KeepsOthers place before after = (other : ℕ) → other ≢ place → slice_get after other ≡ slice_get before other

-- what stands at the places of attached ports is the very same
abbrev pub KeepsAttached : {A : Type 0} → List PortState → List A → List A → Type 0
KeepsAttached ports before after =
    (place : ℕ) → is_attached_at place ports ≡ true → slice_get after place ≡ slice_get before place

-- the port of a link that is attached
abbrev pub attached_to : LinkState → PortState
attached_to link = record { link = Some link; attached = true }

abbrev pub where_attached : Bool → Option LinkState → Option LinkState
where_attached true link = link
where_attached false link = None

-- a port without its link, where that is detached
abbrev pub without_gone : PortState → PortState
without_gone port = record { link = where_attached port.attached port.link; attached = port.attached }
