use Rattle.captures.proofs.CaptureCommands.Answering.{one_status, some_status}
use Rattle.captures.proofs.capture_commands.pcap_laws.one_answer.Goals as goal

pub returns-clause-some : goal.returns-clause-some
returns-clause-some c = some_status

pub returns-clause-one : goal.returns-clause-one
returns-clause-one c = one_status
