use Rattle.frame_links.proofs.PcapFrames.Following.{read_bytes}
use Rattle.captures.proofs.CaptureCommands.ToldLines as told_lines
use Rattle.captures.proofs.capture_commands.pcap_laws.one_output.Goals as goal

pub returns-clause-some : goal.returns-clause-some
returns-clause-some c form octets records ending bytes read =
    told_lines.some_output c.one_line.ensures.some form 1 records (read_bytes octets records ending bytes read)

pub returns-clause-one : goal.returns-clause-one
returns-clause-one c = told_lines.one_output c.one_line.ensures.one
