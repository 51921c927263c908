use Rattle.std.proofs.Common.{◌≡◌, ◌∙◌, Ok, Err, true, false, ap}
use Rattle.captures.proofs.CaptureCommands.Packs.{pushed_nothing, pushed_frame, pushed_refusal}
use Rattle.captures.proofs.capture_commands.pack.push_line.Goals as goal

pub returns-in-Ok-true : goal.returns-in-Ok-true
returns-in-Ok-true c = λ number.
    let is : c.pack_line.result ≡ Ok true = c.in-Ok-true.is ∙ ap Ok c.in-Ok-true.field-0-test in
    let frame = (c.pack_line.ensures.packed (λ h. cc)).0 is in
    pushed_frame c.args.line.now frame.0 c.args.block.now.items c.pack_line.new.out.items c.push_end.new.block.items number
    c.push_end.result frame.1 (c.pack_line.ensures.written frame.0 is frame.1.packs) c.push_end.ensures.ended c.push_end.ensures.refused

pub returns-in-Ok-false : goal.returns-in-Ok-false
returns-in-Ok-false c = λ number.
    let is : c.pack_line.result ≡ Ok false = c.in-Ok-false.is ∙ ap Ok c.in-Ok-false.field-0-test in
    pushed_nothing c.args.line.now c.args.block.now.items c.pack_line.new.out.items number tt
    (c.pack_line.ensures.skipped.0 is) (c.pack_line.ensures.same (λ h. cc))

pub returns-in-Err : goal.returns-in-Err
returns-in-Err c = λ number.
    rw c.unpacked_fault.ensures
    (pushed_refusal (Unit {0}) c.args.line.now c.args.block.now.items c.pack_line.new.out.items number c.in-Err.refusal
    (λ e. c.pack_line.ensures.not_packable.0 (c.in-Err.is ∙ ap Err e))
    (λ e. (c.pack_line.ensures.not_shown (λ h. cc)).0 (c.in-Err.is ∙ ap Err e))
    (λ e. (c.pack_line.ensures.count (λ h. cc)).0 (c.in-Err.is ∙ ap Err e))
    (c.pack_line.ensures.same (λ h. cc)))
