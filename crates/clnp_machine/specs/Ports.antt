-- By which ports frames come to a system, and go out from it.
use Rattle.std.specs.Prelude.{ℕ, ◌<◌, length}
use Rattle.clnp_machine.specs.System.{SystemState, Input, FrameComes, Output, Transmits, SendsEsis, Notes}

-- a system has a port of this number
abbrev pub HasPort : SystemState → ℕ → Type 0
HasPort s port = port < length s.attached.ports

-- where something comes in a frame, it comes by a port that is there
abbrev pub ComesByPort : SystemState → Input → Type 0
ComesByPort s (FrameComes port sender to_group content) = HasPort s port
ComesByPort s _ = Unit {0}

-- what is sent goes by a port that is there
abbrev pub GoesByPort : SystemState → Output → Type 0
GoesByPort s (Transmits port target packet) = HasPort s port
GoesByPort s (SendsEsis port target value) = HasPort s port
GoesByPort s (Notes note) = Unit {0}
