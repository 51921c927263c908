use Rattle.std.proofs.Common.{◌+◌, ◌++◌, ◌∷◌, [], List, take, sym, ap, ◌∙◌, subst}
use Rattle.std.proofs.lemmas.List.{take_all, take_more}
use Rattle.std.proofs.lemmas.Result.{err_from_is_err_and}
use Rattle.system_tables.specs.declared.reassembly.table.Table.{Table}
use Rattle.system_tables.specs.declared.reassembly.table.TableLimits.{TableLimits}
use Rattle.system_tables.specs.declared.fair_reassembly.share.Share.{Share}
use Rattle.system_tables.specs.FairReassembly.Tables.{AreOpened, IsOpened, limits_of}
use Rattle.system_tables.proofs.FairReassembly.Opened.{limits-push, opened-push}
use Rattle.system_tables.proofs.fair_reassembly.fair.tables_for.Goals as goal

pub loop-share-preserved : goal.loop-share-preserved
loop-share-preserved c =
    let shares = c.args.shares.now in
    let share = c.share-item.result in
    let front = take_more shares c.loop-share.share-index share c.loop-share-test.true
    ∙ ap (λ (s : Share). take c.loop-share.share-index shares ++ s ∷ []) (sym {A = Share} c.share-item.is) in
    subst (AreOpened (limits_of c.args.others (take (c.loop-share.share-index + 1) shares))) (sym {A = List Table} c.in_ok-push-2.ensures.items)
    (subst (λ (l : List Share). AreOpened (limits_of c.args.others l) (c.loop-share.tables.items ++ c.in_ok-new-2.field-0 ∷ [])) (sym {A = List Share} front)
    (subst (λ (l : List TableLimits). AreOpened l (c.loop-share.tables.items ++ c.in_ok-new-2.field-0 ∷ []))
    (sym {A = List TableLimits} (limits-push c.args.others (take c.loop-share.share-index shares) share))
    (opened-push (limits_of c.args.others (take c.loop-share.share-index shares)) c.loop-share.tables.items share.limits c.in_ok-new-2.field-0 c.loop-share.invariant
    (record { stands = c.in_ok-new-2.ensures.stands; none_whole = c.in_ok-new-2.ensures.none_whole; limits_are = c.in_ok-new-2.ensures.limits }))))

pub returns-in_err-new : goal.returns-in_err-new
returns-in_err-new c =
    let p = err_from_is_err_and c.from_residual.result c.from_residual.ensures.1 in
    rw p.1 tt

pub returns-in_err-push : goal.returns-in_err-push
returns-in_err-push c =
    let p = err_from_is_err_and c.from_residual-in_err-push.result c.from_residual-in_err-push.ensures.1 in
    rw p.1 tt

pub returns-in_err-new-2 : goal.returns-in_err-new-2
returns-in_err-new-2 c =
    let p = err_from_is_err_and c.from_residual-in_err-new-2.result c.from_residual-in_err-new-2.ensures.1 in
    rw p.1 tt

pub returns-in_err-push-2 : goal.returns-in_err-push-2
returns-in_err-push-2 c =
    let p = err_from_is_err_and c.from_residual-in_err-push-2.result c.from_residual-in_err-push-2.ensures.1 in
    rw p.1 tt

pub loop-share-init : goal.loop-share-init
loop-share-init c =
    let table = c.in_ok-new.field-0 in
    let one : IsOpened c.args.others table =
    record { stands = c.in_ok-new.ensures.stands; none_whole = c.in_ok-new.ensures.none_whole; limits_are = c.in_ok-new.ensures.limits } in
    subst (AreOpened (c.args.others ∷ [])) (sym {A = List Table} (c.in_ok-push.ensures.items ∙ ap (λ (l : List Table). l ++ table ∷ []) c.new-tables.ensures.items)) (one, tt)

pub returns : goal.returns
returns c =
    subst (λ (l : List Share). AreOpened (limits_of c.args.others l) c.loop-share.tables.items)
    (take_all c.loop-share.share-index c.args.shares.now c.loop-share-test.false) c.loop-share.invariant
