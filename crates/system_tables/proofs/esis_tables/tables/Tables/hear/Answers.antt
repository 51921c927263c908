use Rattle.std.proofs.Common.{◌∙◌, [], refl}
use Rattle.system_tables.specs.declared.esis_tables.fact.TableKind.TheVariants.{Es, Is, Rd}
use Rattle.system_tables.specs.EsisTables.Fact.{after, hearing}
use Rattle.system_tables.specs.EsisTables.Stands.{limits_of}
use Rattle.system_tables.proofs.EsisTables.Current.{answer_is, heard_keeps, keeps-elsewhere}
use Rattle.system_tables.proofs.EsisTables.Standing.{ready_from, stands_from}
use Rattle.system_tables.proofs.esis_tables.tables.Tables.hear.Goals as goal

pub returns-in-Es-clause-answered : goal.returns-in-Es-clause-answered
returns-in-Es-clause-answered c facts stands =
    let old = c.args.self.now in
    let ready = ready_from old facts c.args.now stands in
    let fact = hearing c.args.now Es c.args.key c.args.neighbour c.args.hold in
    rw c.in-Es.is (c.hear.ensures.answered Es ready.systems.kept ready.systems.keeps
    ∙ answer_is old.systems (limits_of old) fact facts refl refl ready.systems)

pub returns-in-Es-clause-stands : goal.returns-in-Es-clause-stands
returns-in-Es-clause-stands c facts stands =
    let old = c.args.self.now in
    let ready = ready_from old facts c.args.now stands in
    let limits = limits_of old in
    let fact = hearing c.args.now Es c.args.key c.args.neighbour c.args.hold in
    rw c.in-Es.is (stands_from (record { systems = c.hear.new.self; routers = c.args.self.now.routers; redirects = c.args.self.now.redirects }) (after limits fact facts) c.args.now (record {
      systems = heard_keeps old.systems limits fact facts refl refl ready.systems c.hear.new.self (c.hear.ensures.keeps Es ready.systems.kept ready.systems.keeps);
      routers = keeps-elsewhere Is old.routers c.args.now limits fact facts [] refl ready.routers;
      redirects = keeps-elsewhere Rd old.redirects c.args.now limits fact facts [] refl ready.redirects;
    }))

pub returns-in-Is-clause-answered : goal.returns-in-Is-clause-answered
returns-in-Is-clause-answered c facts stands =
    let old = c.args.self.now in
    let ready = ready_from old facts c.args.now stands in
    let fact = hearing c.args.now Is c.args.key c.args.neighbour c.args.hold in
    rw c.in-Is.is (c.hear-in-Is.ensures.answered Is ready.routers.kept ready.routers.keeps
    ∙ answer_is old.routers (limits_of old) fact facts refl refl ready.routers)

pub returns-in-Is-clause-stands : goal.returns-in-Is-clause-stands
returns-in-Is-clause-stands c facts stands =
    let old = c.args.self.now in
    let ready = ready_from old facts c.args.now stands in
    let limits = limits_of old in
    let fact = hearing c.args.now Is c.args.key c.args.neighbour c.args.hold in
    rw c.in-Is.is (stands_from (record { systems = c.args.self.now.systems; routers = c.hear-in-Is.new.self; redirects = c.args.self.now.redirects }) (after limits fact facts) c.args.now (record {
      systems = keeps-elsewhere Es old.systems c.args.now limits fact facts [] refl ready.systems;
      routers = heard_keeps old.routers limits fact facts refl refl ready.routers c.hear-in-Is.new.self (c.hear-in-Is.ensures.keeps Is ready.routers.kept ready.routers.keeps);
      redirects = keeps-elsewhere Rd old.redirects c.args.now limits fact facts [] refl ready.redirects;
    }))

pub returns-in-Rd-clause-answered : goal.returns-in-Rd-clause-answered
returns-in-Rd-clause-answered c facts stands =
    let old = c.args.self.now in
    let ready = ready_from old facts c.args.now stands in
    let fact = hearing c.args.now Rd c.args.key c.args.neighbour c.args.hold in
    rw c.in-Rd.is (c.hear-in-Rd.ensures.answered Rd ready.redirects.kept ready.redirects.keeps
    ∙ answer_is old.redirects (limits_of old) fact facts refl refl ready.redirects)

pub returns-in-Rd-clause-stands : goal.returns-in-Rd-clause-stands
returns-in-Rd-clause-stands c facts stands =
    let old = c.args.self.now in
    let ready = ready_from old facts c.args.now stands in
    let limits = limits_of old in
    let fact = hearing c.args.now Rd c.args.key c.args.neighbour c.args.hold in
    rw c.in-Rd.is (stands_from (record { systems = c.args.self.now.systems; routers = c.args.self.now.routers; redirects = c.hear-in-Rd.new.self }) (after limits fact facts) c.args.now (record {
      systems = keeps-elsewhere Es old.systems c.args.now limits fact facts [] refl ready.systems;
      routers = keeps-elsewhere Is old.routers c.args.now limits fact facts [] refl ready.routers;
      redirects = heard_keeps old.redirects limits fact facts refl refl ready.redirects c.hear-in-Rd.new.self (c.hear-in-Rd.ensures.keeps Rd ready.redirects.kept ready.redirects.keeps);
    }))
