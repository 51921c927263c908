use Rattle.std.proofs.Common.{◌≡◌, ◌∙◌, false, refl, subst, sym, take}
use Rattle.std.specs.List.{list_any}
use Rattle.std.proofs.lemmas.Option.{slice_get_read}
use Rattle.pdus.proofs.ClnpBase.ListSteps.{take_push}
use Rattle.system_tables.specs.Forwarding.Distinct.{IsTwice, has_prefix}
use Rattle.system_tables.specs.Forwarding.Stands.{Stands}
use Rattle.system_tables.proofs.ForwardingFacts.Prefixes.{IsTwice-at, place_is_there}
use Rattle.system_tables.proofs.ForwardingFacts.Setting.{set_in_absent}
use Rattle.system_tables.proofs.forwarding.routes.Routes.from_list.Goals as goal

pub unreachable-requires : goal.unreachable-requires
unreachable-requires c =
    let before = take c.loop-second.second c.args.list.now in
    place_is_there before c.index-list-second.result.prefix c.place_of.result c.in_ok-put.field-0 c.if-branch.true
    (c.in_ok-put.ensures.there before c.loop-second.invariant) c.place_of.ensures c.in_default.is

pub returns-then-branch-clause-twice : goal.returns-then-branch-clause-twice
returns-then-branch-clause-twice c = λ first second e.
    let at_first : c.in-Some.first ≡ first = cc e in
    let at_second : c.loop-second.second ≡ second = cc e in
    let twice =
    IsTwice-at c.args.list.now c.index-list-second.result c.loop-second.second c.place_of.result
    (slice_get_read c.args.list.now _ c.loop-second.second c.index-list-second.result refl c.loop-second-test.true c.index-list-second.is)
    c.loop-second.invariant.distinct c.place_of.ensures c.in-Some.first c.in-Some.is in
    subst (λ n. IsTwice c.args.list.now first n) at_second (subst (λ n. IsTwice c.args.list.now n c.loop-second.second) at_first twice)

pub loop-second-preserved : goal.loop-second-preserved
loop-second-preserved c =
    let before = take c.loop-second.second c.args.list.now in
    let route = c.index-list-second.result in
    let absent : list_any (has_prefix route.prefix) before ≡ false =
    sym (c.in_ok-put.ensures.there before c.loop-second.invariant) ∙ c.if-branch.false in
    let there = slice_get_read c.args.list.now _ c.loop-second.second route refl c.loop-second-test.true c.index-list-second.is in
    subst (λ routes. Stands c.put.new.self routes)
    (set_in_absent route before absent ∙ sym (take_push c.args.list.now c.loop-second.second route there).0)
    (c.in_ok-put.ensures.stands before c.loop-second.invariant)
