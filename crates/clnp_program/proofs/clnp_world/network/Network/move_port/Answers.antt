-- The port is put on the subnetwork, and its line is written.
use Rattle.std.proofs.Common.{◌≡◌, ◌∙◌, ℕ, List, Some, arith, refl, subst}
use Rattle.std.specs.Prelude.{slice_get}
use Rattle.std.proofs.lemmas.Option.{slice_get_read}
use Rattle.std.proofs.lemmas.Result.{on_ok_weaker}
use Rattle.clnp_machine.specs.ClnpPlan.declared.note.Note.TheVariants as note
use Rattle.clnp_machine.proofs.ClnpBase.Lists.{slice_get_some}
use Rattle.clnp_program.proofs.ClnpWorld.ChangeSteps.{WritesNote, moves_no_port, moves_of_none, moves_onto_no_mtu, moves_onto_none, moves_there}
use Rattle.clnp_program.proofs.ClnpWorld.TakeSteps.{with_node}
use Rattle.clnp_program.proofs.clnp_world.network.Network.move_port.Goals as goal

pub returns-then-at-subnets : goal.returns-then-at-subnets
returns-then-at-subnets g c =
    moves_onto_none c.args.subnets.now c.args.place c.args.number c.args.subnet c.args.snpa c.args.self.now (g.L.LineSink.taken c.args.lines.now) (omega arith)

pub returns-then-at-len : goal.returns-then-at-len
returns-then-at-len g c =
    moves_onto_no_mtu c.args.subnets.now c.args.place c.args.number c.args.subnet c.args.snpa c.args.self.now (g.L.LineSink.taken c.args.lines.now)
    (omega (arith, c.args.self.now.mtus.ok.0))

pub returns-then-place-len : goal.returns-then-place-len
returns-then-place-len g c =
    moves_of_none c.args.subnets.now c.args.place c.args.number c.args.subnet c.args.snpa c.args.self.now (g.L.LineSink.taken c.args.lines.now)
    (omega (arith, c.args.self.now.systems.ok.0))

pub returns-then-not-put_port : goal.returns-then-not-put_port
returns-then-not-put_port g c =
    let old = c.args.self.now in
    let node = c.index_mut.result.now in
    let mtu = c.index-mtu.result.now in
    let declared = slice_get_some c.args.subnets.now c.args.subnet (omega arith) in
    moves_no_port c.args.subnets.now c.args.place c.args.number c.args.subnet c.args.snpa old (g.L.LineSink.taken c.args.lines.now) declared.0 mtu node c.put_port.new.system
    declared.1
    (subst (λ (at : ℕ). slice_get old.mtus.items at ≡ Some mtu) c.from-at.ensures
    (slice_get_read old.mtus.items _ c.from-at.result mtu refl (omega (arith, old.mtus.ok.0)) c.index-mtu.ensures))
    (slice_get_read old.systems.items _ c.args.place node refl (omega (arith, old.systems.ok.0)) c.index_mut.ensures.value)
    c.if-not-put_port.ensures

pub returns : goal.returns
returns g c =
    let old = c.args.self.now in
    let node = c.index_mut.result.now in
    let new = c.put_port.new.system in
    let mtu = c.index-mtu.result.now in
    let declared = c.index-subnets-at.result in
    on_ok_weaker c.write_note.result (λ writes.
    moves_there c.args.subnets.now c.args.place c.args.number c.args.subnet c.args.snpa old (g.L.LineSink.taken c.args.lines.now) (g.L.LineSink.taken c.write_note.new.lines) declared mtu node new
    (subst (λ (at : ℕ). slice_get c.args.subnets.now at ≡ Some declared) c.from-at.ensures
    (slice_get_read c.args.subnets.now _ c.from-at.result declared refl (omega arith) c.index-subnets-at.is))
    (subst (λ (at : ℕ). slice_get old.mtus.items at ≡ Some mtu) c.from-at.ensures
    (slice_get_read old.mtus.items _ c.from-at.result mtu refl (omega (arith, old.mtus.ok.0)) c.index-mtu.ensures))
    (slice_get_read old.systems.items _ c.args.place node refl (omega (arith, old.systems.ok.0)) c.index_mut.ensures.value)
    c.if-not-put_port.ensures
    (subst (λ (name : List ℕ). WritesNote (with_node old c.args.place new) (g.L.LineSink.taken c.args.lines.now) (g.L.LineSink.taken c.write_note.new.lines) c.args.place
    (note.Port c.args.number name c.args.snpa)) (c.in_ok-name.ensures ∙ c.name.ensures) writes))
    c.write_note.ensures
