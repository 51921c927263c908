use Rattle.std.proofs.Common.{◌≡◌, refl}
use Rattle.clnp_base.specs.Text.{words_of}
use Rattle.captures.specs.declared.capture_commands.frame_line.Envelope.{Envelope}
use Rattle.captures.specs.CaptureCommands.Make.{Makes, four_of, frame_of_words}
use Rattle.captures.specs.CaptureCommands.ReadLine.{frame_value}
use Rattle.captures.proofs.CaptureCommands.FrameLines.{can_be_made}
use Rattle.captures.proofs.capture_commands.frame_line.read_frame.Goals as goal

pub returns-in-Ok-clause-frame : goal.returns-in-Ok-clause-frame
returns-in-Ok-clause-frame c =
    let e : Envelope = record { seconds = c.in-Some-read_seconds.seconds; to = c.in-Some-read_destination.to; from = c.in-Some-read_station.from } in
    let read : frame_of_words (four_of (words_of c.args.line.now)) ≡ Makes (frame_value e c.read_pdu.new.pdu.items) =
    rw (c.in-Some.ensures.words, ← c.in-Some-read_seconds.ensures, ← c.in-Some-read_destination.ensures, ← c.in-Some-read_station.ensures, c.in-Ok.ensures) refl in
    let made = can_be_made c.args.line.now (frame_value e c.read_pdu.new.pdu.items) read in
    made.frame
