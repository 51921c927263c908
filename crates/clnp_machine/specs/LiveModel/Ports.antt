-- What outcomes say of ports: which are looked at, which are detached, and what their links took.
use Rattle.std.specs.Prelude.{◌≡◌, ℕ, ◌==◌, Bool, true, false, List, [], ◌∷◌, ◌++◌, filter, map, slice_get, slice_set, ◌⊎◌}
use Rattle.std.specs.List.{AllByRecursion, flat_map}
use Rattle.clnp_plan.specs.Journal.{Line, Noted, Transmitted, Void, Late, Injected, Resized, Received, Lost, ForNobody}
use Rattle.clnp_machine.specs.LiveModel.Lines.{NodeLine, Says, LinkGone}
use Rattle.clnp_machine.specs.LiveModel.Node.{Outcome, Saw, LookFailed, Took, SendFailed, Sending, is_on, ports_of}
use Rattle.clnp_machine.specs.LiveModel.Course.{Turn}

abbrev pub port_of : Outcome → ℕ
port_of (Saw port look) = port
port_of (LookFailed port) = port
port_of (Took port) = port
port_of (SendFailed port) = port

-- whether it is that of a frame that was sent, and not of a look
abbrev pub is_sent : Outcome → Bool
is_sent (Saw port look) = false
is_sent (LookFailed port) = false
is_sent (Took port) = true
is_sent (SendFailed port) = true

-- whether the link failed
abbrev pub fails : Outcome → Bool
fails (Saw port look) = false
fails (LookFailed port) = true
fails (Took port) = false
fails (SendFailed port) = true

abbrev pub is_at : ℕ → Outcome → Bool
is_at port outcome = port_of outcome == port

-- the outcomes at a port, in order
abbrev pub outcomes_at : ℕ → List Outcome → List Outcome
outcomes_at port outcomes = filter (is_at port) outcomes

abbrev pub Succeeds : Outcome → Type 0
Succeeds outcome = fails outcome ≡ false

abbrev pub IsSent : Outcome → Type 0
IsSent outcome = is_sent outcome ≡ true

-- the last of some outcomes is a failure, and no other
pub record LastFails (outcomes : List Outcome) : Type 0 where
  pub others : List Outcome
  pub last : Outcome
  pub whole : outcomes ≡ others ++ last ∷ []
  pub succeed : AllByRecursion Succeeds others
  pub fails : fails last ≡ true

-- What the outcomes at a port are, by whether its link was attached before them and is attached after them. Where it wasn't,
-- there are none, and it stays detached; where it is after them, none failed; where it was detached by them, the last one
-- failed, and no other.
pub record PortGoes (before after : Bool) (outcomes : List Outcome) : Type 0 where
  pub stays : before ≡ false → (after ≡ false) × (outcomes ≡ [])
  pub holds : after ≡ true → AllByRecursion Succeeds outcomes
  pub breaks : before ≡ true → after ≡ false → LastFails outcomes

-- so are the outcomes at each port
abbrev pub PortsGo : (before after : List Bool) → List Outcome → Type 0
PortsGo before after outcomes =
    (port : ℕ) → PortGoes (is_on (slice_get before port)) (is_on (slice_get after port)) (outcomes_at port outcomes)

-- a port whose link failed is detached
abbrev pub detached_at : Outcome → List Bool → List Bool
detached_at (Saw port look) attached = attached
detached_at (LookFailed port) attached = slice_set attached port false
detached_at (Took port) attached = attached
detached_at (SendFailed port) attached = slice_set attached port false

abbrev pub detached_by : List Outcome → List Bool → List Bool
detached_by [] attached = attached
detached_by (outcome ∷ outcomes) attached = detached_by outcomes (detached_at outcome attached)

-- Looks.

-- a look at a port, the frames that were sent for what it saw, and then the rest
pub record LooksFirst (port : ℕ) (attached : List Bool) (outcomes : List Outcome) (Rest : List Bool → List Outcome → Type 0) : Type 0 where
  pub look : Outcome
  pub sent : List Outcome
  pub others : List Outcome
  pub whole : outcomes ≡ look ∷ sent ++ others
  pub is_look : is_sent look ≡ false
  pub at_port : port_of look ≡ port
  pub are_sent : AllByRecursion IsSent sent
  pub rest : Rest (detached_by (look ∷ sent) attached) others

abbrev pub WhereOn : Bool → Type 0 → Type 0 → Type 0
WhereOn true P Q = P
WhereOn false P Q = Q

-- Ports are looked at in order: once each whose link is attached when its place comes, and no other.
abbrev pub LooksInOrder : (ports : List ℕ) (attached : List Bool) → List Outcome → Type 0
LooksInOrder [] attached outcomes = outcomes ≡ []
LooksInOrder (port ∷ ports) attached outcomes =
    WhereOn (is_on (slice_get attached port)) (LooksFirst port attached outcomes (LooksInOrder ports))
    (LooksInOrder ports attached outcomes)

-- the outcomes of a turn: first those of frames that were sent for the moment and the events, then the looks
pub record LooksOnce (attached : List Bool) (outcomes : List Outcome) : Type 0 where
  pub sent : List Outcome
  pub others : List Outcome
  pub whole : outcomes ≡ sent ++ others
  pub are_sent : AllByRecursion IsSent sent
  pub looks : LooksInOrder (ports_of (detached_by sent attached)) (detached_by sent attached) others

abbrev pub EachLooksOnce : (attached : List Bool) → List Turn → Type 0
EachLooksOnce attached [] = Unit {0}
EachLooksOnce attached (turn ∷ turns) =
    LooksOnce attached turn.outcomes × EachLooksOnce (detached_by turn.outcomes attached) turns

-- What is told, and what links took.

-- the ports of the links that failed
abbrev pub failed_at : Outcome → List ℕ
failed_at (Saw port look) = []
failed_at (LookFailed port) = port ∷ []
failed_at (Took port) = []
failed_at (SendFailed port) = port ∷ []

abbrev pub failed_in : List Outcome → List ℕ
failed_in outcomes = flat_map failed_at outcomes

-- the ports whose links are told to be gone
abbrev pub gone_at : NodeLine → List ℕ
gone_at (Says line) = []
gone_at (LinkGone now name port) = port ∷ []

abbrev pub gone_in : List NodeLine → List ℕ
gone_in lines = flat_map gone_at lines

-- the ports of the links that took a frame
abbrev pub took_at : Outcome → List ℕ
took_at (Saw port look) = []
took_at (LookFailed port) = []
took_at (Took port) = port ∷ []
took_at (SendFailed port) = []

abbrev pub took_in : List Outcome → List ℕ
took_in outcomes = flat_map took_at outcomes

-- the frames that lines say were transmitted
abbrev pub sent_of : Line → List Sending
sent_of (Noted now name note) = []
sent_of (Transmitted now name copy port target frame) = record { port = port; frame = record { target = target; octets = frame } } ∷ []
sent_of (Void now name copy) = []
sent_of (Late now name copy) = []
sent_of (Injected now copy subnet sender target) = []
sent_of (Resized now subnet mtu) = []
sent_of (Received now name copy port) = []
sent_of (Lost now copy) = []
sent_of (ForNobody now copy) = []

abbrev pub sent_at : NodeLine → List Sending
sent_at (Says line) = sent_of line
sent_at (LinkGone now name port) = []

abbrev pub sent_in : List NodeLine → List Sending
sent_in lines = flat_map sent_at lines

-- the first list is the second with some of its elements left out
abbrev pub IsAmong : {A : Type 0} → List A → List A → Type 0
IsAmong [] ys = Unit {0}
IsAmong (x ∷ xs) [] = ⊥
IsAmong (x ∷ xs) (y ∷ ys) = ((x ≡ y) × IsAmong xs ys) ⊎ IsAmong (x ∷ xs) ys

-- What links took in a part: a frame for each outcome that says so, at its port and in order, all of them among the frames of
-- the lines.
pub record TakesWritten (before after : List Sending) (outcomes : List Outcome) (lines : List NodeLine) : Type 0 where
  pub more : List Sending
  pub taken : after ≡ before ++ more
  pub ports : map (λ (sending : Sending). sending.port) more ≡ took_in outcomes
  pub written : IsAmong more (sent_in lines)
