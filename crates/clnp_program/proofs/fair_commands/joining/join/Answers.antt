use Rattle.std.proofs.Common.{◌≡◌, ◌++◌, [], ℕ, List, length, ap, ◌∙◌, subst, arith}
use Rattle.std.proofs.lemmas.Result.{err_from_is_err_and}
use Rattle.clnp_program.specs.FairCommands.Grammar.{Capture}
use Rattle.clnp_program.specs.FairCommands.Output.{end_line}
use Rattle.system_tables.specs.declared.fair_reassembly.came.Came.{Came}
use Rattle.system_tables.specs.declared.fair_reassembly.share.Share.{Share}
use Rattle.system_tables.specs.FairReassembly.Behind.{StandBehind}
use Rattle.system_tables.specs.FairReassembly.Classes.{Shares}
use Rattle.clnp_program.specs.FairCommands.Writing.{EndOf, StopOf, UnderWay}
use Rattle.clnp_program.proofs.FairCommands.Writing.{join_ended, join_stopped}
use Rattle.clnp_program.proofs.fair_commands.joining.join.Goals as goal

pub returns-in_err-take_in-in-Ok-clause-comes_to : goal.returns-in_err-take_in-in-Ok-clause-comes_to
returns-in_err-take_in-in-Ok-clause-comes_to g c =
    let capture = c.args.capture.now in
    let inside : List Share → Shares = λ shares. record { others = c.capture.inside.others; shares = shares } in
    let shares_are : inside c.deref.result.now ≡ capture.shares = ap inside c.deref.ensures.value ∙ ap (λ (x : Capture). x.shares) c.capture.view_is in
    let frames_are : c.deref-in-Ok.result.now ≡ capture.frames = c.deref-in-Ok.ensures.value ∙ ap (λ (x : Capture). x.frames) c.capture.view_is in
    let behind : StandBehind capture.shares [] c.in-Ok.tables = subst (λ (s : Shares). StandBehind s [] c.in-Ok.tables) shares_are c.in-Ok.ensures.behind in
    let p = err_from_is_err_and c.from_residual.result c.from_residual.ensures.1 in
    rw (p.1, p.2) (join_stopped (Unit {0}) capture (g.K.Sink.written c.args.sink.now) (g.K.Sink.written c.take_in.new.sink) c.in_err-take_in-in-Ok.field-0.0
    (subst (λ (frames : List Came). StopOf capture.shares frames (g.K.Sink.written c.args.sink.now) (g.K.Sink.written c.take_in.new.sink) c.in_err-take_in-in-Ok.field-0.0)
    frames_are (c.in_err-take_in-in-Ok.ensures.comes_to capture.shares behind)))

pub returns-in_ok-take_in-in-Ok-clause-comes_to : goal.returns-in_ok-take_in-in-Ok-clause-comes_to
returns-in_ok-take_in-in-Ok-clause-comes_to g c =
    let capture = c.args.capture.now in
    let inside : List Share → Shares = λ shares. record { others = c.capture.inside.others; shares = shares } in
    let shares_are : inside c.deref.result.now ≡ capture.shares = ap inside c.deref.ensures.value ∙ ap (λ (x : Capture). x.shares) c.capture.view_is in
    let frames_are : c.deref-in-Ok.result.now ≡ capture.frames = c.deref-in-Ok.ensures.value ∙ ap (λ (x : Capture). x.frames) c.capture.view_is in
    let behind : StandBehind capture.shares [] c.in-Ok.tables = subst (λ (s : Shares). StandBehind s [] c.in-Ok.tables) shares_are c.in-Ok.ensures.behind in
    let held : c.len.result ≡ length c.capture.inside.frames.items = omega (arith, c.len.ensures, c.capture.inside.frames.ok.0) in
    let count : c.len.result ≡ length capture.frames = held ∙ ap (λ (x : Capture). length x.frames) c.capture.view_is in
    join_ended capture c.take_in.new.tables (g.K.Sink.written c.args.sink.now) (g.K.Sink.written c.take_in.new.sink) (g.K.Sink.written c.write_end.new.sink)
    c.take_in.new.block.items c.write_end.result
    (subst (λ (frames : List Came). UnderWay capture.shares frames c.take_in.new.tables (g.K.Sink.written c.args.sink.now) (g.K.Sink.written c.take_in.new.sink) c.take_in.new.block.items)
    frames_are (c.in_ok-take_in-in-Ok.ensures.comes_to capture.shares behind))
    (subst (λ (n : ℕ). EndOf (c.take_in.new.block.items ++ end_line n) (g.K.Sink.written c.take_in.new.sink) (g.K.Sink.written c.write_end.new.sink) c.write_end.result)
    count c.write_end.ensures.comes_to)
