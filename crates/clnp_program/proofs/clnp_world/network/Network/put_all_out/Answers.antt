-- One output after another.
use Rattle.std.proofs.Common.{◌≡◌, ◌∙◌, List, Some, sym, arith, subst, take}
use Rattle.std.specs.Prelude.{slice_get}
use Rattle.std.proofs.lemmas.List.{take_all}
use Rattle.clnp_machine.specs.ClnpPlan.declared.output.Output.{Output}
use Rattle.clnp_machine.specs.Given.{GiveAll}
use Rattle.clnp_machine.proofs.ClnpBase.Lists.{slice_get_some}
use Rattle.clnp_machine.proofs.ClnpBase.ListSteps.{take_push}
use Rattle.clnp_program.proofs.ClnpWorld.PutSteps.{PutsOut, puts_more}
use Rattle.clnp_program.proofs.clnp_world.network.Network.put_all_out.Goals as goal

pub loop-at-preserved : goal.loop-at-preserved
loop-at-preserved g c =
    let old = c.args.self.now in
    let at = c.loop-at.at in
    let before = g.L.LineSink.taken c.args.lines.now in
    let after = g.L.LineSink.taken c.put_out.new.lines in
    let outputs = old.outputs.items in
    let out = slice_get_some outputs at (omega (arith, old.outputs.ok.0)) in
    let same = c.loop-at.invariant.outputs in
    let there : slice_get c.loop-at.self.outputs.items at ≡ Some out.0
    = cc in
    let one = take_push outputs at out.0 out.1 in
    record {
      puts = subst (λ (front : List Output). PutsOut old c.put_out.new.self before after c.args.place c.args.came front) (sym one.0)
          (puts_more old c.loop-at.self c.put_out.new.self before (g.L.LineSink.taken c.loop-at.lines) after c.args.place c.args.came
          (take at outputs) out.0 c.loop-at.invariant.puts (c.in_ok-put_out.ensures.puts out.0 there));
      systems = c.in_ok-put_out.ensures.systems ∙ c.loop-at.invariant.systems;
      clock = c.in_ok-put_out.ensures.clock ∙ c.loop-at.invariant.clock;
      outputs = c.in_ok-put_out.ensures.outputs ∙ c.loop-at.invariant.outputs;
      copies = omega (arith, c.in_ok-put_out.ensures.copies, c.loop-at.invariant.copies);
    }

pub returns-clause-puts : goal.returns-clause-puts
returns-clause-puts g c = λ model system content others h there born own gives.
    let outputs = c.args.self.now.outputs.items in
    let all : take c.loop-at.at outputs ≡ outputs = take_all c.loop-at.at outputs (omega (arith, c.args.self.now.outputs.ok.0)) in
    c.loop-at.invariant.puts model system content others h there born own
    (subst (λ (given : List Output). GiveAll system.moment (Some content) given others) (sym all) gives)
