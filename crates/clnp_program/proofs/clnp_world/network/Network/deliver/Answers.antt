-- The copy is there, and it is for the system or not.
use Rattle.std.proofs.Common.{ℕ, ◌-◌, Option, arith, subst}
use Rattle.std.proofs.lemmas.Result.{on_ok_weaker}
use Rattle.clnp_program.proofs.ClnpWorld.GiveSteps.{GivesBy, TellsPort, delivers, delivers_nowhere, delivers_none, delivers_other, gives_by, port_told, tells_none, tells_some}
use Rattle.clnp_program.proofs.clnp_world.network.Network.deliver.Goals as goal

pub returns-then-place-len : goal.returns-then-place-len
returns-then-place-len g c =
    delivers_nowhere c.args.self.now (g.L.LineSink.taken c.args.lines.now) c.args.limits c.args.number c.args.place (omega (arith, c.args.self.now.systems.ok.0))

pub returns-then-number-eq0 : goal.returns-then-number-eq0
returns-then-number-eq0 g c =
    let old = c.args.self.now in
    on_ok_weaker c.write_void.result
    (delivers_none old (g.L.LineSink.taken c.args.lines.now) (g.L.LineSink.taken c.write_void.new.lines) c.args.limits c.args.number c.args.place
    (omega (arith, old.systems.ok.0)) (λ at is. absurd (omega arith)))
    c.write_void.ensures

pub returns-then-at-len : goal.returns-then-at-len
returns-then-at-len g c =
    let old = c.args.self.now in
    on_ok_weaker c.write_void-then-at-len.result
    (delivers_none old (g.L.LineSink.taken c.args.lines.now) (g.L.LineSink.taken c.write_void-then-at-len.new.lines) c.args.limits c.args.number c.args.place
    (omega (arith, old.systems.ok.0)) (λ at is. omega (arith, old.copies.ok.0)))
    c.write_void-then-at-len.ensures

pub returns-in-None : goal.returns-in-None
returns-in-None g c =
    let old = c.args.self.now in
    let tells = λ (found : Option ℕ). TellsPort old (c.args.number - 1) c.args.place found in
    on_ok_weaker c.write_void-in-None.result
    (delivers_other old (g.L.LineSink.taken c.args.lines.now) (g.L.LineSink.taken c.write_void-in-None.new.lines) c.args.limits c.args.number (c.args.number - 1)
    c.args.place (omega arith) (omega (arith, old.systems.ok.0)) (omega (arith, old.copies.ok.0))
    (tells_none old (c.args.number - 1) c.args.place (subst tells c.in-None.is c.port_for.ensures)))
    c.write_void-in-None.ensures

pub returns-in-Some : goal.returns-in-Some
returns-in-Some g c =
    let old = c.args.self.now in
    let at = (c.args.number - 1) in
    let port = c.in-Some.port in
    let tells = subst (λ (found : Option ℕ). TellsPort old at c.args.place found) c.in-Some.is c.port_for.ensures in
    on_ok_weaker c.give.result (λ gives.
    delivers old c.give.new.self (g.L.LineSink.taken c.args.lines.now) (g.L.LineSink.taken c.give.new.lines) c.args.limits c.args.number at c.args.place
    (omega arith) (omega (arith, old.systems.ok.0)) (omega (arith, old.copies.ok.0)) (tells_some old at c.args.place port tells)
    (gives_by old c.give.new.self (g.L.LineSink.taken c.args.lines.now) (g.L.LineSink.taken c.give.new.lines) c.args.limits c.args.number at c.args.place port
    (omega (arith, old.systems.ok.0)) (port_told old at c.args.place port tells)
    (subst (λ (n : ℕ). GivesBy old c.give.new.self (g.L.LineSink.taken c.args.lines.now) (g.L.LineSink.taken c.give.new.lines) c.args.limits n at c.args.place port) c.from.ensures gives)))
    c.give.ensures.follows
