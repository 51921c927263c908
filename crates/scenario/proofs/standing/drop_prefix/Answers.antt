use Rattle.std.proofs.Common.{not, rules, tests}
use Rattle.std.specs.Str.{bytes_eq}
use Rattle.std.proofs.lemmas.Fn.{filter_same}
use Rattle.scenario.proofs.standing.drop_prefix.Goals as goal

pub returns : goal.returns
returns c = filter_same _ (λ other. not (bytes_eq other c.args.prefix.now)) _ (λ x b f k. search (rules, tests)) _ _ c.retain.ensures.filtered
