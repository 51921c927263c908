use Rattle.std.proofs.Common.{[], sym, ◌++◌, ◌∙◌, rules}
use Rattle.pdus.specs.MadePdus.Match.{AreRequest}
use Rattle.pdus.proofs.MadePdus.Requests.{begins, is_request, its_value, nothing, one_test}
use Rattle.pdus.proofs.made_pdus.echo_matching.is_request.Goals as goal
use Rattle.std.proofs.lemmas.Bool.{true≢false}

pub returns-in_default-clause-answers : goal.returns-in_default-clause-answers
returns-in_default-clause-answers c = (λ t. cc, λ r. absurd (c.in_default.ensures.none r.value [] (begins c.args.octets.now (c.args.front.now ++ c.args.behind.now) r.value r.spells)))

pub returns-in_default-kind-clause-answers : goal.returns-in_default-kind-clause-answers
returns-in_default-kind-clause-answers c =
    (λ t. cc, λ r. absurd (c.in_default-kind.not-Erq (its_value c.one_value.ensures c.args.octets.now (c.args.front.now ++ c.args.behind.now) _ _ c.in-Ok.ensures.found r).0))

pub returns-then-is_joined-clause-answers : goal.returns-then-is_joined-clause-answers
returns-then-is_joined-clause-answers c =
    let same = c.is_joined.ensures.same in
    let none = nothing c.in-Ok.pdu.rest.now c.is_empty.result c.is_empty.ensures in (
      λ t. is_request c.args.octets.now (c.args.front.now ++ c.args.behind.now) _ _ c.in-Ok.ensures.found c.in-Erq.is (same.0 c.if-is_joined.true) (none.0 t),
      λ r. none.1 (its_value c.one_value.ensures c.args.octets.now (c.args.front.now ++ c.args.behind.now) _ _ c.in-Ok.ensures.found r).2,
    )

pub returns-else-is_joined-clause-answers : goal.returns-else-is_joined-clause-answers
returns-else-is_joined-clause-answers c =
    let same = c.is_joined.ensures.same in
    (λ t. absurd (true≢false (sym t ∙ c.if-is_joined.false)), λ r. same.1 (its_value c.one_value.ensures c.args.octets.now (c.args.front.now ++ c.args.behind.now) _ _ c.in-Ok.ensures.found r).1)

pub returns-in_default-clause-test : goal.returns-in_default-clause-test
returns-in_default-clause-test c =
    one_test _ _ (AreRequest (c.args.front.now ++ c.args.behind.now) c.args.octets.now) (returns-in_default-clause-answers c)
    (c.the_test_is_the_rule.ensures.request (c.args.front.now ++ c.args.behind.now) c.args.octets.now (search (rules, c.type_inv.octets)))

pub returns-in_default-kind-clause-test : goal.returns-in_default-kind-clause-test
returns-in_default-kind-clause-test c =
    one_test _ _ (AreRequest (c.args.front.now ++ c.args.behind.now) c.args.octets.now) (returns-in_default-kind-clause-answers c)
    (c.the_test_is_the_rule.ensures.request (c.args.front.now ++ c.args.behind.now) c.args.octets.now (search (rules, c.type_inv.octets)))

pub returns-then-is_joined-clause-test : goal.returns-then-is_joined-clause-test
returns-then-is_joined-clause-test c =
    one_test _ _ (AreRequest (c.args.front.now ++ c.args.behind.now) c.args.octets.now) (returns-then-is_joined-clause-answers c)
    (c.the_test_is_the_rule.ensures.request (c.args.front.now ++ c.args.behind.now) c.args.octets.now (search (rules, c.type_inv.octets)))

pub returns-else-is_joined-clause-test : goal.returns-else-is_joined-clause-test
returns-else-is_joined-clause-test c =
    one_test _ _ (AreRequest (c.args.front.now ++ c.args.behind.now) c.args.octets.now) (returns-else-is_joined-clause-answers c)
    (c.the_test_is_the_rule.ensures.request (c.args.front.now ++ c.args.behind.now) c.args.octets.now (search (rules, c.type_inv.octets)))
