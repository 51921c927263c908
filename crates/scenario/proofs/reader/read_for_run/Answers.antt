use Rattle.scenario.proofs.ForRun.{says_for_board}
use Rattle.scenario.proofs.reader.read_for_run.Goals as goal

pub returns-clause-alike : goal.returns-clause-alike
returns-clause-alike c =
    (says_for_board c.args.links c.args.text.now c.read_as.result (λ plan. c.accepted_for_run.ensures c.args.links c.args.text.now plan) c.read_as.ensures).0

pub returns-clause-fits : goal.returns-clause-fits
returns-clause-fits c =
    (says_for_board c.args.links c.args.text.now c.read_as.result (λ plan. c.accepted_for_run.ensures c.args.links c.args.text.now plan) c.read_as.ensures).1
