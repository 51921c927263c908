use Rattle.std.proofs.Common.{◌≡◌, ◌≢◌, ◌∙◌, true, sym, ap, ◌-◌, length, arith}
use Rattle.std.proofs.lemmas.Bool.{eqb-true, eqb-false}
use Rattle.pdus.specs.EsisPdus.Fields.{is_field}
use Rattle.pdus.proofs.EsisPdus.FieldFacts.{no_field, empty_field, some_field, stops, goes_whole, goes_behind, length_behind, ends_whole, ends_behind}
use Rattle.pdus.proofs.esis_pdus.addresses.addresses_size.Goals as goal

pub returns-in_default-clause-judged : goal.returns-in_default-clause-judged
returns-in_default-clause-judged c =
    c.loop.invariant.whole ∙ stops c.args.count c.loop.counter c.loop.rest.now c.loop-test.true (no_field c.loop.rest.now c.in_default.ensures.judged)

pub returns-then-is_empty-clause-judged : goal.returns-then-is_empty-clause-judged
returns-then-is_empty-clause-judged c =
    let none : length c.in-Some.address.now ≡ 0 = eqb-true _ 0 (sym c.is_empty.ensures ∙ c.if-is_empty.true) in
    c.loop.invariant.whole ∙ stops c.args.count c.loop.counter c.loop.rest.now c.loop-test.true (empty_field c.loop.rest.now _ c.in-Some.ensures.judged c.in-Some.ensures.octets none)

pub loop-preserved : goal.loop-preserved
loop-preserved c =
    let some : length c.in-Some.address.now ≢ 0 = eqb-false _ 0 (sym c.is_empty.ensures ∙ c.if-is_empty.false) in
    let whole : is_field 1 c.loop.rest.now ≡ true = some_field c.loop.rest.now _ c.in-Some.ensures.judged c.in-Some.ensures.octets some in
    record {
      whole = c.loop.invariant.whole ∙ goes_whole c.args.count c.loop.counter c.loop.rest.now c.in-Some.others.now c.loop-test.true whole c.in-Some.ensures.behind;
      behind = c.loop.invariant.behind ∙ goes_behind c.args.count c.loop.counter c.loop.rest.now c.in-Some.others.now c.loop-test.true c.in-Some.ensures.behind;
      size = omega (arith, c.loop.invariant.size, length_behind c.loop.rest.now, ap length c.in-Some.ensures.behind);
    }

pub returns-clause-judged : goal.returns-clause-judged
returns-clause-judged c = c.loop.invariant.whole ∙ ends_whole (c.args.count - c.loop.counter) c.loop.rest.now (omega arith)

pub returns-clause-size : goal.returns-clause-size
returns-clause-size c =
    omega (arith, c.loop.invariant.size, ap length c.loop.invariant.behind, ap length (ends_behind (c.args.count - c.loop.counter) c.loop.rest.now (omega arith)))
