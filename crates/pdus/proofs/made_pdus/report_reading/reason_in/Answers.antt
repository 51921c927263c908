use Rattle.std.proofs.Common.{rules, sym, ◌∷◌, [], get_or}
use Rattle.std.proofs.lemmas.List.Elements.{All-head, All-rest, All-same}
use Rattle.pdus.specs.ClnpOptions.Grammar.{HasForm}
use Rattle.pdus.specs.ClnpOptions.Parameter.{parameters, reason}
use Rattle.pdus.proofs.MadePdus.Reason.{ends, has_reason, none_left, passes, stands}
use Rattle.pdus.proofs.made_pdus.report_reading.reason_in.Goals as goal

pub returns-then-code-clause-octets : goal.returns-then-code-clause-octets
returns-then-code-clause-octets c =
    ends (parameters c.args.options.now) (parameters c.loop-code.rest.now) (parameters c.in-Some.others.now)
    (record { code = c.in-Some.code; value = c.in-Some.value.now }) c.in-Some.ensures.options c.if-code.true
    (All-head HasForm (record { code = c.in-Some.code; value = c.in-Some.value.now }) (parameters c.in-Some.others.now) (All-same HasForm _ _ (sym c.in-Some.ensures.options) c.loop-code.invariant.formed))
    c.loop-code.invariant.value

pub loop-code-preserved : goal.loop-code-preserved
loop-code-preserved c = record {
  value = passes (parameters c.args.options.now) (parameters c.loop-code.rest.now) (parameters c.in-Some.others.now)
      (record { code = c.in-Some.code; value = c.in-Some.value.now }) c.in-Some.ensures.options c.if-code.false c.loop-code.invariant.value;
  formed = All-rest HasForm (record { code = c.in-Some.code; value = c.in-Some.value.now }) (parameters c.in-Some.others.now) _ c.in-Some.ensures.options c.loop-code.invariant.formed;
}

pub unreachable-requires : goal.unreachable-requires
unreachable-requires c =
    none_left (parameters c.args.options.now) (parameters c.loop-code.rest.now) (search rules) c.loop-code.invariant.value (has_reason (parameters c.args.options.now) c.requires.reason)

pub returns-then-code-clause-stands : goal.returns-then-code-clause-stands
returns-then-code-clause-stands c =
    stands (parameters c.args.options.now) reason (get_or c.in-Some.value.now 0 0 ∷ get_or c.in-Some.value.now 1 0 ∷ []) (returns-then-code-clause-octets c)
