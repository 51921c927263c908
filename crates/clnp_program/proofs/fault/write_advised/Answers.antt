-- The line of advice stands behind that of the fault.
use Rattle.std.proofs.Common.{◌≡◌, ℕ, List, ◌++◌, subst}
use Rattle.std.specs.Io.KnownBytes.{Appends}
use Rattle.std.proofs.KnownBytes.{Appends-trans}
use Rattle.std.proofs.lemmas.Result.{on_ok_weaker}
use Rattle.clnp_program.specs.Answers.{line_of_fault, line_of_advice}
use Rattle.clnp_program.proofs.fault.write_advised.Goals as goal

pub returns-clause-written : goal.returns-clause-written
returns-clause-written g c =
    let before = g.K.Sink.written c.args.errors.now in
    let middle = g.K.Sink.written c.write_fault.new.errors in
    let after = g.K.Sink.written c.write_advice.new.errors in
    let line = line_of_fault c.args.fault in
    let said : c.as_bytes.result.now ≡ c.args.advice.now = c.as_bytes.ensures.said in
    on_ok_weaker c.write_advice.result
    (λ written. subst (λ (advice : List ℕ). Appends before after (line ++ line_of_advice advice)) said
    (Appends-trans before middle after line (line_of_advice c.as_bytes.result.now) c.in_ok-write_fault.ensures.written written))
    c.write_advice.ensures.written
