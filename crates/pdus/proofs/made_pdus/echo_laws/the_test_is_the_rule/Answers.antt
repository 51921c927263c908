use Rattle.pdus.proofs.MadePdus.Requests.{test_of_reply, test_of_request}
use Rattle.pdus.proofs.made_pdus.echo_laws.the_test_is_the_rule.Goals as goal

pub returns : goal.returns
returns c = record { request = test_of_request; reply = test_of_reply }
