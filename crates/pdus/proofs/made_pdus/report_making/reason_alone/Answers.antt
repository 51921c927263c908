use Rattle.std.proofs.Common.{◌∷◌, [], ◌++◌, rules, subst, sym}
use Rattle.pdus.specs.ClnpOptions.Parameter.{parameters}
use Rattle.pdus.specs.ClnpOptions.Rules.{AreWellFormed}
use Rattle.pdus.specs.MadePdus.Report.{reason_option}
use Rattle.pdus.proofs.MadePdus.Reason.{alone, alone_fits}
use Rattle.pdus.proofs.MadePdus.Lengths.{four}
use Rattle.pdus.proofs.made_pdus.report_making.reason_alone.Goals as goal

pub push-requires : goal.push-requires
push-requires c =
    subst (λ xs. AreWellFormed (parameters xs ++ reason_option c.args.code c.args.place ∷ [])) (sym c.new-options.ensures) (alone c.args.code c.args.place)

pub returns-clause-fits : goal.returns-clause-fits
returns-clause-fits c = alone_fits (parameters c.push.new.self) c.args.code c.args.place (search rules)

pub returns-clause-size : goal.returns-clause-size
returns-clause-size c = four (parameters c.push.new.self) c.args.code c.args.place (search rules)
