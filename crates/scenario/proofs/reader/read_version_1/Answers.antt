use Rattle.scenario.proofs.Alone.{says_version_1}
use Rattle.scenario.proofs.reader.read_version_1.Goals as goal

pub returns-clause-version : goal.returns-clause-version
returns-clause-version c =
    says_version_1 c.args.text.now c.read_as.result (λ plan. c.version_1_is_read_alike.ensures.accepted c.args.text.now plan) c.read_as.ensures
