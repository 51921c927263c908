-- The system takes a step, and what it gives out is put out.
use Rattle.std.proofs.Common.{arith, refl}
use Rattle.std.proofs.lemmas.Option.{slice_get_read}
use Rattle.std.proofs.lemmas.Result.{on_ok_weaker}
use Rattle.clnp_systems.specs.Stands.{role_of}
use Rattle.clnp_systems.specs.Steps.{input_with}
use Rattle.clnp_program.proofs.ClnpWorld.TakeSteps.{comes_there, comes_to_none}
use Rattle.clnp_program.proofs.clnp_world.network.Network.comes.Goals as goal

pub returns-then-place-len-clause-follows : goal.returns-then-place-len-clause-follows
returns-then-place-len-clause-follows g c = λ model content h carries born timely.
    comes_to_none c.args.self.now (g.L.LineSink.taken c.args.lines.now) c.args.place (omega (arith, c.args.self.now.systems.ok.0)) model
    (input_with content c.args.input.now) h timely

pub step-requires : goal.step-requires
step-requires g c =
    c.requires c.index_mut.result.now
    (slice_get_read c.args.self.now.systems.items _ c.args.place c.index_mut.result.now refl (omega (arith, c.args.self.now.systems.ok.0)) c.index_mut.ensures.value)

pub returns-clause-follows : goal.returns-clause-follows
returns-clause-follows g c =
    let old = c.args.self.now in
    let node = c.index_mut.result.now in
    on_ok_weaker c.put_all_out.result (λ puts model content h carries born timely.
    comes_there c.first_transmissions_are_its_own.ensures old c.put_all_out.new.self (g.L.LineSink.taken c.args.lines.now) (g.L.LineSink.taken c.put_all_out.new.lines)
    c.args.place c.args.came content c.args.input.now (role_of node) node c.step.new.self c.empty.new.outputs.items c.step.new.out.items
    (slice_get_read old.systems.items _ c.args.place node refl (omega (arith, old.systems.ok.0)) c.index_mut.ensures.value)
    c.empty.ensures (c.in_ok-step.ensures.step content carries) puts model h born timely)
    c.put_all_out.ensures.puts

pub returns-clause-clock : goal.returns-clause-clock
returns-clause-clock g c = c.put_all_out.ensures.clock

pub returns-clause-copies : goal.returns-clause-copies
returns-clause-copies g c = c.put_all_out.ensures.copies
