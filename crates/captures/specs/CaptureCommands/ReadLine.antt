-- What reading the line of a frame comes to.
use Rattle.std.specs.Prelude.{◌≡◌, ℕ, List, Result, Ok, Err}
use Rattle.clnp_base.specs.declared.command_base.block.LineFault.{LineFault}
use Rattle.clnp_base.specs.declared.command_base.block.LineFault.TheVariants as fault
use Rattle.frame_links.specs.PcapFrames.Making.{Frame}
use Rattle.captures.specs.declared.capture_commands.frame_line.Envelope.{Envelope}
use Rattle.captures.specs.declared.capture_commands.frame_line.LineWords.{LineWords}
use Rattle.captures.specs.CaptureCommands.Make.{FourWords, FrameLine, Malformed, Makes}

abbrev pub words_value : LineWords → FourWords
words_value w = record { seconds = w.seconds.now; to = w.to.now; from = w.from.now; pdu = w.pdu.now }

abbrev pub frame_value : Envelope → List ℕ → Frame
frame_value e pdu = record { seconds = e.seconds; to = e.to; from = e.from; pdu = pdu }

-- What reading a PDU comes to.
abbrev pub PduOf : Result (List ℕ) ℕ → List ℕ → Result (Unit {0}) LineFault → Type 0
PduOf read pdu (Ok _) = read ≡ Ok pdu
PduOf read pdu (Err (fault.Bad code)) = read ≡ Err code
PduOf read pdu (Err fault.NoMemory) = Unit {0}

-- What reading the words of a line comes to.
abbrev pub ReadOf : FrameLine → List ℕ → Result Envelope LineFault → Type 0
ReadOf line pdu (Ok e) = line ≡ Makes (frame_value e pdu)
ReadOf line pdu (Err (fault.Bad code)) = line ≡ Malformed code
ReadOf line pdu (Err fault.NoMemory) = Unit {0}
