-- What links go through in a part of a run, by its outcomes and the frames that they took.
use Rattle.std.specs.Prelude.{◌≡◌, ℕ, suc, ◌≤◌, ◌==◌, Bool, true, false, if◌then◌else◌, List, [], ◌∷◌, Option, None, Some}
use Rattle.frame_links.specs.ClnpBase.Streams.{Rose}
use Rattle.frame_links.specs.LinkBoard.Links.{CameFrame, SentFrame, LinkState, Grows}
use Rattle.frame_links.specs.LinkBoard.Ports.{PortState}
use Rattle.clnp_machine.specs.LiveModel.Node.{Outcome, Saw, LookFailed, Took, SendFailed, Sending}

-- what the looks at a port saw
abbrev pub looks_in : (port : ℕ) → List Outcome → List (Option CameFrame)
looks_in port [] = []
looks_in port (Saw at look ∷ others) = if at == port then look ∷ looks_in port others else looks_in port others
looks_in port (LookFailed at ∷ others) = looks_in port others
looks_in port (Took at ∷ others) = looks_in port others
looks_in port (SendFailed at ∷ others) = looks_in port others

-- the frames that a port's link took
abbrev pub taken_by : (port : ℕ) → List Sending → List SentFrame
taken_by port [] = []
taken_by port (sending ∷ others) = if sending.port == port then sending.frame ∷ taken_by port others else taken_by port others

-- whether one of the looks saw nothing
abbrev pub has_empty : List (Option CameFrame) → Bool
has_empty [] = false
has_empty (None ∷ looks) = true
has_empty (Some frame ∷ looks) = has_empty looks

-- A link after looks that saw this, and frames that it took: its lists grew by just these, where it tells them; no count fell;
-- and where a look saw nothing, the count of such looks rose.
pub record LinkWent (before after : LinkState) (looks : List (Option CameFrame)) (sent : List SentFrame) : Type 0 where
  pub looks_are : Grows before.looks after.looks looks
  pub sent_are : Grows before.sent after.sent sent
  pub faults : before.faults ≤ after.faults
  pub empties : before.empties ≤ after.empties
  pub empty : has_empty looks ≡ true → Rose before.empties after.empties

-- so is the link of a port, where that has one
abbrev pub LinkGoes : (before after : Option LinkState) → List (Option CameFrame) → List SentFrame → Type 0
LinkGoes None None looks sent = (looks ≡ []) × (sent ≡ [])
LinkGoes None (Some after) looks sent = ⊥
LinkGoes (Some before) None looks sent = ⊥
LinkGoes (Some before) (Some after) looks sent = LinkWent before after looks sent

abbrev pub faults_of : Option LinkState → ℕ
faults_of None = 0
faults_of (Some link) = link.faults

-- A port: its link went so; where it was detached, the link failed; and one that was detached before is as it was.
pub record PortWent (before after : PortState) (looks : List (Option CameFrame)) (sent : List SentFrame) : Type 0 where
  pub link : LinkGoes before.link after.link looks sent
  pub broke : before.attached ≡ true → after.attached ≡ false → Rose (faults_of before.link) (faults_of after.link)
  pub stays : before.attached ≡ false → after ≡ before

-- so does each port, from a place on
abbrev pub PortsWent : (place : ℕ) → (before after : List PortState) → List Outcome → List Sending → Type 0
PortsWent place [] [] outcomes taken = Unit {0}
PortsWent place (before ∷ befores) (after ∷ afters) outcomes taken =
    PortWent before after (looks_in place outcomes) (taken_by place taken) × PortsWent (suc place) befores afters outcomes taken
PortsWent place [] (after ∷ afters) outcomes taken = ⊥
PortsWent place (before ∷ befores) [] outcomes taken = ⊥
