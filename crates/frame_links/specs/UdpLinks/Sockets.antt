-- Sockets of datagrams, and what looks at them and datagrams given to them come to.
use Rattle.std.specs.Prelude.{◌≡◌, ℕ, ◌<◌, ◌≤◌, Bool, true, false, ◌&&◌, if◌then◌else◌, List, [], ◌∷◌, ◌++◌, length, map, take, Option, None, Some, Result, Ok, Err, is_ok, All}
use Rattle.std.specs.IoError.{error_kind}
use Rattle.std.specs.Net.Addr.{ipv4_octets}
use Rattle.std.specs.Net.Socket.{v4_ip, v4_port}
use Rattle.std.specs.declared.io.Error.{Error}
use Rattle.std.specs.declared.io.ErrorKind.{ErrorKind}
use Rattle.std.specs.declared.io.ErrorKind.TheVariants.{WouldBlock, TimedOut, Interrupted}
use Rattle.std.specs.declared.net.socket_addr.SocketAddr.{SocketAddr}
use Rattle.std.specs.declared.net.socket_addr.SocketAddr.TheVariants.{V4, V6}
use Rattle.std.specs.declared.net.socket_addr.SocketAddrV4.{SocketAddrV4}
use Rattle.pdus.specs.ClnpBase.declared.streams.Failed.{Failed}
use Rattle.frame_links.specs.LinkBoard.Ends.{Ends, snpa_of}
use Rattle.frame_links.specs.LinkBoard.Links.{CameFrame, LinkState, SentFrame, Grows, look_of}
use Rattle.frame_links.specs.UdpLinks.Receivers.{receivers}
use Rattle.frame_links.specs.declared.link_board.end.End.{End}
use Rattle.frame_links.specs.declared.link_board.link.Got.{Got}

-- the end at a socket address
abbrev pub end_at_address : SocketAddrV4 → End
end_at_address address = record { address = ipv4_octets (v4_ip address); port = v4_port address }

-- a datagram that came: from where, and its octets
pub record Datagram : Type 0 where
  pub from : SocketAddr
  pub octets : List ℕ

-- a datagram that was given to a socket: for whom, its octets, and what came of it
pub record Gift : Type 0 where
  pub to : End
  pub octets : List ℕ
  pub outcome : Result ℕ Error

-- What is seen of a socket, where it tells it: what came of the looks at it so far, and the datagrams that were given to it.
pub record SocketState : Type 0 where
  pub looks : Option (List (Result Datagram Error))
  pub gifts : Option (List Gift)

-- what came of a look, where the buffer is left so
abbrev pub datagram_in : Result (ℕ × SocketAddr) Error → List ℕ → Result Datagram Error
datagram_in (Ok came) buffer = Ok (record { from = came.1; octets = take came.0 buffer })
datagram_in (Err error) buffer = Err error

-- after a look that came to this
pub record LookedAt (before after : SocketState) (look : Result Datagram Error) : Type 0 where
  pub looks : Grows before.looks after.looks (look ∷ [])
  pub gifts : Grows before.gifts after.gifts []

-- after a datagram was given
pub record GaveOne (before after : SocketState) (gift : Gift) : Type 0 where
  pub looks : Grows before.looks after.looks []
  pub gifts : Grows before.gifts after.gifts (gift ∷ [])

-- what is seen of a link over UDP as of any link: it tells neither its looks nor what it sent
abbrev pub state_of : (faults empties : ℕ) → LinkState
state_of faults empties = record { looks = None; sent = None; faults = faults; empties = empties }

-- ---- looks

-- whether an error of this kind passes: nothing had come, or there was no room just now, or a signal came first
abbrev pub passes : ErrorKind → Bool
passes WouldBlock = true
passes TimedOut = true
passes Interrupted = true
passes _ = false

-- the frame in a datagram: all its octets, from the SNPA of its sender, never through a group; over IP version 6 there is none
abbrev pub frame_of : SocketAddr → List ℕ → Option CameFrame
frame_of (V4 from) octets = Some (record { from = snpa_of (end_at_address from); to_group = false; octets = octets })
frame_of (V6 from) octets = None

-- what a link makes of a look at its socket: the frame, nothing where the error passes, and a failure at each other error
abbrev pub seen_of : Result Datagram Error → Result (Option CameFrame) Failed
seen_of (Ok datagram) = Ok (frame_of datagram.from datagram.octets)
seen_of (Err error) = if passes (error_kind error) then Ok None else Err (record {})

-- what a link tells of a look, where the buffer is left so
abbrev pub told_in : Result (Option Got) Failed → List ℕ → Result (Option CameFrame) Failed
told_in (Ok look) buffer = Ok (look_of look buffer)
told_in (Err failed) buffer = Err failed

-- a look at a socket, and what is told of it
pub record LooksOnce (before after : SocketState) (told : Result (Option CameFrame) Failed) : Type 0 where
  pub look : Result Datagram Error
  pub looked : LookedAt before after look
  pub seen : told ≡ seen_of look

-- A look of a link is a look at its socket, or several one behind another, each but the last of which saw nothing; what is
-- told is what the last one saw.
pub record LooksTo (before after : SocketState) (told : Result (Option CameFrame) Failed) : Type 0 where
  pub empty : List (Result Datagram Error)
  pub last : Result Datagram Error
  pub looks : Grows before.looks after.looks (empty ++ last ∷ [])
  pub gifts : Grows before.gifts after.gifts []
  pub nothing : All (λ look. seen_of look ≡ Ok None) empty
  pub seen : told ≡ seen_of last

-- ---- gifts

-- whether a datagram that was given so has to be given again
abbrev pub is_again : Result ℕ Error → Bool
is_again (Ok _) = false
is_again (Err error) = passes (error_kind error)

-- a datagram of these octets that was given for an end, and came to this
abbrev pub gift_of : End → List ℕ → Result ℕ Error → Gift
gift_of end octets outcome = record { to = end; octets = octets; outcome = outcome }

-- A datagram was given for an end, again and again as long as an error passed, but no more than 1,000 times. It is taken
-- where the last of these was.
pub record GivesOne (end : End) (octets : List ℕ) (before after : SocketState) (taken : Bool) : Type 0 where
  pub again : List (Result ℕ Error)
  pub last : Result ℕ Error
  pub looks : Grows before.looks after.looks []
  pub gifts : Grows before.gifts after.gifts (map (gift_of end octets) (again ++ last ∷ []))
  pub passing : All (λ outcome. is_again outcome ≡ true) again
  pub few : length again < 1000
  pub given_up : is_again last ≡ true → length again ≡ 999
  pub took : taken ≡ is_ok last

-- It was given for each of these ends in turn, whatever came of those before; and whether all of them were taken.
abbrev pub GivesEach : List End → List ℕ → SocketState → SocketState → Bool → Type 0
GivesEach [] octets before after all = (before ≡ after) × (all ≡ true)
GivesEach (end ∷ ends) octets before after all =
    (between : SocketState) × (one others : Bool) × GivesOne end octets before between one
    × GivesEach ends octets between after others × (all ≡ (one && others))

-- A frame of at most 70,000 octets is given as one datagram for each of its receivers, and is sent where all were taken; a
-- longer one is given to nobody, and fails.
pub record Sends (ends : Ends) (frame : SentFrame) (before after : SocketState) (sent : Bool) : Type 0 where
  pub given : length frame.octets ≤ 70000 → GivesEach (receivers ends frame.target) frame.octets before after sent
  pub too_long : 70000 < length frame.octets → (before ≡ after) × (sent ≡ false)
