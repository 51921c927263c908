-- The copy is late; or a line tells that it comes, and then its frame comes to the system.
use Rattle.std.proofs.Common.{ℕ, Bool, [], ◌∷◌, Option, sym, ap, subst, arith, refl}
use Rattle.std.proofs.lemmas.Option.{slice_get_read}
use Rattle.std.proofs.lemmas.Result.{on_ok_weaker}
use Rattle.clnp_machine.specs.Step.{step}
use Rattle.clnp_machine.specs.System.{FrameComes, Input, SystemState}
use Rattle.clnp_machine.specs.ClnpNetwork.LabelledNetwork as network
use Rattle.clnp_machine.specs.ClnpPlan.Journal.{Received}
use Rattle.clnp_program.specs.ClnpWorld.Lines.{Gains}
use Rattle.clnp_program.specs.ClnpWorld.Parts.{Follows}
use Rattle.clnp_program.specs.ClnpWorld.Stands.{IsMadeWithUnit}
use Rattle.clnp_program.specs.declared.clnp_world.copy.FrameCopy.{FrameCopy}
use Rattle.clnp_systems.specs.declared.input.Input.TheVariants.{Frame}
use Rattle.clnp_program.proofs.ClnpWorld.GiveSteps.{TellsLate, born_at, came, copy_at, carried_at, gives_late, gives_now, hands_over}
use Rattle.clnp_systems.specs.Stands.{role_of}
use Rattle.clnp_program.proofs.ClnpWorld.TakeSteps.{comes_there, is_behind}
use Rattle.clnp_program.proofs.clnp_world.network.Network.give.Goals as goal

pub returns-then-is_late-clause-follows : goal.returns-then-is_late-clause-follows
returns-then-is_late-clause-follows g c =
    let old = c.args.self.now in
    on_ok_weaker c.write_late.result (λ writes model copy system h at there port_is.
    gives_late old (g.L.LineSink.taken c.args.lines.now) (g.L.LineSink.taken c.write_late.new.lines) c.args.limits c.args.number c.args.at c.args.place
    (omega (arith, old.systems.ok.0)) (subst (λ (b : Bool). TellsLate old c.args.limits c.args.at b) c.if-is_late.true c.is_late.ensures)
    writes model copy h at)
    c.write_late.ensures

pub returns-clause-follows : goal.returns-clause-follows
returns-clause-follows g c =
    let old = c.args.self.now in
    let seen = c.index-copy.result.now in
    let node = c.index_mut.result.now in
    on_ok_weaker c.put_all_out.result (λ puts model copy system h at there port_is.
    let same = copy_at old model c.args.at seen copy h.shows (omega (arith, old.copies.ok.0)) c.index-copy.ensures at in
    let carried = carried_at model.copies c.args.at copy h.shows.carried at in
    let born = subst (λ (f : FrameCopy). IsMadeWithUnit f.origin copy.content) (sym same) (born_at model.copies c.args.at copy h.shows.born at) in
    let comes = came copy system seen c.args.port c.is_to_group-group.result port_is same c.is_to_group-group.ensures in
    let octets = ap (λ (f : FrameCopy). f.frame) (sym same) in
    let sent : Input = FrameComes c.args.port seen.sender c.is_to_group-group.result copy.content in
    let part = comes_there c.first_transmissions_are_its_own.ensures old c.put_all_out.new.self (g.L.LineSink.taken c.write_receipt.new.lines) (g.L.LineSink.taken c.put_all_out.new.lines)
    c.args.place seen.origin copy.content (Frame c.args.port seen.sender c.is_to_group-group.result (record { ref_ptr = (0, 0); now = seen.frame })) (role_of node) node c.step.new.self c.empty.new.outputs.items c.step.new.out.items
    (slice_get_read old.systems.items _ c.args.place node refl (omega (arith, old.systems.ok.0)) c.index_mut.ensures.value)
    c.empty.ensures (c.in_ok-step.ensures.step copy.content (carried, octets)) puts model h born (is_behind old c.args.place model h) in
    let line = subst (λ (port : ℕ). Gains (g.L.LineSink.taken c.args.lines.now) (g.L.LineSink.taken c.write_receipt.new.lines)
    (Received system.moment system.configuration.name c.args.number port ∷ [])) port_is (c.in_ok-write_receipt.ensures model system h.shows there) in
    gives_now old c.put_all_out.new.self (g.L.LineSink.taken c.args.lines.now) (g.L.LineSink.taken c.put_all_out.new.lines) c.args.limits c.args.number c.args.at c.args.place
    (subst (λ (b : Bool). TellsLate old c.args.limits c.args.at b) c.if-is_late.false c.is_late.ensures) model copy system h at there
    (hands_over c.put_all_out.new.self (g.L.LineSink.taken c.args.lines.now) (g.L.LineSink.taken c.write_receipt.new.lines) (g.L.LineSink.taken c.put_all_out.new.lines) c.args.number c.args.place model copy system line
    (subst (λ (i : Input). Follows c.put_all_out.new.self (g.L.LineSink.taken c.write_receipt.new.lines) (g.L.LineSink.taken c.put_all_out.new.lines) (network.takes_effect model c.args.place (step system i))) comes
    (subst (λ (s : Option SystemState). Follows c.put_all_out.new.self (g.L.LineSink.taken c.write_receipt.new.lines) (g.L.LineSink.taken c.put_all_out.new.lines)
    (network.comes_to model c.args.place sent s)) there part))))
    c.put_all_out.ensures.puts

pub returns-clause-copies : goal.returns-clause-copies
returns-clause-copies g c = c.put_all_out.ensures.copies
