use Rattle.captures.specs.CaptureCommands.Make.{frames_of}
use Rattle.captures.proofs.CaptureCommands.FrameLines.{all_bytes, all_frames, frames_can}
use Rattle.captures.proofs.CaptureCommands.WrittenLines.{frames_again, made_lines}
use Rattle.captures.proofs.capture_commands.pcap_laws.a_made_file_gives_its_lines_again.Goals as goal

pub returns-clause-frames : goal.returns-clause-frames
returns-clause-frames c lines = all_frames (frames_of lines) (frames_can lines)

pub returns-clause-bytes : goal.returns-clause-bytes
returns-clause-bytes c lines = all_bytes (frames_of lines) (frames_can lines)

pub returns-clause-lines : goal.returns-clause-lines
returns-clause-lines c frames output are tells = made_lines frames 1 output are tells

pub returns-clause-again : goal.returns-clause-again
returns-clause-again c = frames_again
