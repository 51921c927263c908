use Rattle.system_tables.specs.declared.esis_tables.fact.TableKind.TheVariants.{Es, Is, Rd}
use Rattle.system_tables.specs.EsisTables.Gone.{gone}
use Rattle.system_tables.proofs.EsisTables.Standing.{flush_nothing, flush_redirect, flush_router, flush_system, flushed_none, flushed_one, stands_later}
use Rattle.system_tables.proofs.esis_tables.tables.Tables.flush.Goals as goal

pub returns-in-Some-clause-next : goal.returns-in-Some-clause-next
returns-in-Some-clause-next c facts left stands =
    let old = c.args.self.now in
    flush_system old (record { systems = c.flush.new.self; routers = old.routers; redirects = old.redirects }) facts c.args.now left stands c.in-Some.key
    (flushed_one Es old.systems c.flush.new.self facts c.args.now stands.systems_left c.in-Some.key stands.systems
    (c.in-Some.ensures.flushed stands.systems.kept stands.systems.keeps) (c.in-Some.ensures.keeps stands.systems.kept stands.systems.keeps) (c.in-Some.ensures.held stands.systems.kept stands.systems.keeps))
    stands.routers stands.redirects

pub returns-in-Some-clause-first : goal.returns-in-Some-clause-first
returns-in-Some-clause-first c facts before stands le =
    returns-in-Some-clause-next c facts (gone before c.args.now facts) (stands_later c.args.self.now facts before c.args.now stands le)

pub returns-in-Some-flush-clause-next : goal.returns-in-Some-flush-clause-next
returns-in-Some-flush-clause-next c facts left stands =
    let old = c.args.self.now in
    flush_router old (record { systems = c.flush.new.self; routers = c.flush-2.new.self; redirects = old.redirects }) facts c.args.now left stands c.in-Some-flush.key
    (flushed_none Es old.systems c.flush.new.self facts c.args.now stands.systems_left stands.systems
    (c.in_default.ensures.flushed stands.systems.kept stands.systems.keeps) (c.in_default.ensures.keeps stands.systems.kept stands.systems.keeps))
    (flushed_one Is old.routers c.flush-2.new.self facts c.args.now stands.routers_left c.in-Some-flush.key stands.routers
    (c.in-Some-flush.ensures.flushed stands.routers.kept stands.routers.keeps) (c.in-Some-flush.ensures.keeps stands.routers.kept stands.routers.keeps) (c.in-Some-flush.ensures.held stands.routers.kept stands.routers.keeps))
    stands.redirects

pub returns-in-Some-flush-clause-first : goal.returns-in-Some-flush-clause-first
returns-in-Some-flush-clause-first c facts before stands le =
    returns-in-Some-flush-clause-next c facts (gone before c.args.now facts) (stands_later c.args.self.now facts before c.args.now stands le)

pub returns-in_err-key-clause-next : goal.returns-in_err-key-clause-next
returns-in_err-key-clause-next c facts left stands =
    let old = c.args.self.now in
    rw c.from_residual.ensures (flush_nothing old (record { systems = c.flush.new.self; routers = c.flush-2.new.self; redirects = c.flush-3.new.self }) facts c.args.now left stands
    (flushed_none Es old.systems c.flush.new.self facts c.args.now stands.systems_left stands.systems
    (c.in_default.ensures.flushed stands.systems.kept stands.systems.keeps) (c.in_default.ensures.keeps stands.systems.kept stands.systems.keeps))
    (flushed_none Is old.routers c.flush-2.new.self facts c.args.now stands.routers_left stands.routers
    (c.in_default-flush.ensures.flushed stands.routers.kept stands.routers.keeps) (c.in_default-flush.ensures.keeps stands.routers.kept stands.routers.keeps))
    (flushed_none Rd old.redirects c.flush-3.new.self facts c.args.now stands.redirects_left stands.redirects
    (c.in_err-key.ensures.flushed stands.redirects.kept stands.redirects.keeps) (c.in_err-key.ensures.keeps stands.redirects.kept stands.redirects.keeps)))

pub returns-in_err-key-clause-first : goal.returns-in_err-key-clause-first
returns-in_err-key-clause-first c facts before stands le =
    returns-in_err-key-clause-next c facts (gone before c.args.now facts) (stands_later c.args.self.now facts before c.args.now stands le)

pub returns-clause-next : goal.returns-clause-next
returns-clause-next c facts left stands =
    let old = c.args.self.now in
    flush_redirect old (record { systems = c.flush.new.self; routers = c.flush-2.new.self; redirects = c.flush-3.new.self }) facts c.args.now left stands c.in_ok-key.key
    (flushed_none Es old.systems c.flush.new.self facts c.args.now stands.systems_left stands.systems
    (c.in_default.ensures.flushed stands.systems.kept stands.systems.keeps) (c.in_default.ensures.keeps stands.systems.kept stands.systems.keeps))
    (flushed_none Is old.routers c.flush-2.new.self facts c.args.now stands.routers_left stands.routers
    (c.in_default-flush.ensures.flushed stands.routers.kept stands.routers.keeps) (c.in_default-flush.ensures.keeps stands.routers.kept stands.routers.keeps))
    (flushed_one Rd old.redirects c.flush-3.new.self facts c.args.now stands.redirects_left c.in_ok-key.key stands.redirects
    (c.in_ok-key.ensures.flushed stands.redirects.kept stands.redirects.keeps) (c.in_ok-key.ensures.keeps stands.redirects.kept stands.redirects.keeps) (c.in_ok-key.ensures.held stands.redirects.kept stands.redirects.keeps))

pub returns-clause-first : goal.returns-clause-first
returns-clause-first c facts before stands le =
    returns-clause-next c facts (gone before c.args.now facts) (stands_later c.args.self.now facts before c.args.now stands le)
