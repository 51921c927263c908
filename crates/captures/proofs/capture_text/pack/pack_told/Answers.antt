use Rattle.std.proofs.Common.{◌≡◌, ◌++◌, ℕ, List, ap, ◌∙◌}
use Rattle.pdus.specs.Nsap.Text.{hex_text}
use Rattle.captures.proofs.CaptureText.Packed.{one_frame}
use Rattle.captures.proofs.capture_text.pack.pack_told.Goals as goal

-- the line packs to one frame, which is the one that was written
pub returns-clause-written : goal.returns-clause-written
returns-clause-written c = λ frame done other.
    let same : c.in_ok-frame.frame.items ≡ frame = one_frame c.args.line.now c.in_ok-frame.frame.items frame c.in_ok-frame.ensures other in
    c.in_ok-push_hex.ensures.written
    ∙ ap (λ (t : List ℕ). c.args.out.now.items ++ hex_text t) (c.deref.ensures.value ∙ same)
