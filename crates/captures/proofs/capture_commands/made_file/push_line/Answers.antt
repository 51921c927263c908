use Rattle.std.proofs.Common.{[], sym, refl, ◌∙◌, append-nil}
use Rattle.captures.specs.CaptureCommands.ReadLine.{frame_value}
use Rattle.captures.proofs.CaptureCommands.FrameLines.{read_line, skipped_line}
use Rattle.captures.proofs.CaptureCommands.Makes.{good_skipped, pushed_frame, refused_words}
use Rattle.captures.proofs.capture_commands.made_file.push_line.Goals as goal

pub returns-then-is_skipped : goal.returns-then-is_skipped
returns-then-is_skipped c = λ number. (
  [],
  good_skipped c.args.line.now number (skipped_line c.args.line.now (sym c.is_skipped.ensures ∙ c.if-is_skipped.true)),
  sym (append-nil c.args.block.now.items),
)

pub returns-in-Ok : goal.returns-in-Ok
returns-in-Ok c = λ number.
    let pdu = c.read_frame.new.pdu.items in
    pushed_frame c.args.line.now number (frame_value c.in-Ok.envelope pdu) c.args.block.now.items c.put.new.block.items c.put.result
    (read_line c.args.line.now (sym c.is_skipped.ensures ∙ c.if-is_skipped.false) ∙ c.in-Ok.ensures.read)
    (rw c.deref.ensures.value at c.put.ensures.written) c.put.ensures.refused

pub returns-in-Err : goal.returns-in-Err
returns-in-Err c = λ number.
    refused_words c.args.line.now number c.read_frame.new.pdu.items c.args.block.now.items c.args.block.now.items c.in-Err.fault
    (sym c.is_skipped.ensures ∙ c.if-is_skipped.false) refl c.in-Err.ensures.read
