use Rattle.std.proofs.Common.{ℕ, ◌++◌, ◌∷◌, [], List, take, sym, ap, ◌∙◌}
use Rattle.std.proofs.lemmas.List.{map-append, take_all, take_more}
use Rattle.std.proofs.lemmas.Result.{err_from_is_err_and}
use Rattle.system_tables.specs.declared.fair_reassembly.share.Share.{Share}
use Rattle.system_tables.specs.FairReassembly.Tables.{sources_of}
use Rattle.system_tables.proofs.fair_reassembly.fair.sources_of.Goals as goal

pub loop-share-preserved : goal.loop-share-preserved
loop-share-preserved c =
    let shares = c.args.shares.now in
    let share = c.share-item.result in
    let front = take_more shares c.loop-share.share-index share c.loop-share-test.true
    ∙ ap (λ (s : Share). take c.loop-share.share-index shares ++ s ∷ []) (sym c.share-item.is) in
    c.in_ok-push.ensures.items
    ∙ ap (λ (l : List (List ℕ)). l ++ share.from ∷ []) c.loop-share.invariant
    ∙ sym (map-append (λ (s : Share). s.from) (take c.loop-share.share-index shares) (share ∷ []))
    ∙ sym {A = List (List ℕ)} (ap sources_of front)

pub returns-in_err-push : goal.returns-in_err-push
returns-in_err-push c =
    let p = err_from_is_err_and c.from_residual.result c.from_residual.ensures.1 in
    rw p.1 tt

pub loop-share-init : goal.loop-share-init
loop-share-init c = c.new-sources.ensures.items

pub returns : goal.returns
returns c = c.loop-share.invariant ∙ ap sources_of (take_all c.loop-share.share-index c.args.shares.now c.loop-share-test.false)
