use Rattle.frame_links.proofs.PcapFrames.Following.{read_bytes, read_fits}
use Rattle.captures.proofs.CaptureCommands.WrittenLines.{lines_are_read}
use Rattle.captures.proofs.capture_commands.pcap_laws.lines_make_the_frames_again.Goals as goal

pub returns-clause-accepted : goal.returns-clause-accepted
returns-clause-accepted c octets output records ending bytes read tells =
    let are = lines_are_read records 1 1 output (read_fits octets records ending read) (read_bytes octets records ending bytes read) tells in
    are.accepted

pub returns-clause-frames : goal.returns-clause-frames
returns-clause-frames c octets output records ending bytes read tells =
    let are = lines_are_read records 1 1 output (read_fits octets records ending read) (read_bytes octets records ending bytes read) tells in
    are.same
