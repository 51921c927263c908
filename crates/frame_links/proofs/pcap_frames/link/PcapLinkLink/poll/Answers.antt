use Rattle.std.proofs.Common.{drop, length, vec_len, Some, refl, sym, ap, ◌∙◌, arith}
use Rattle.frame_links.specs.LinkBoard.Memory.{look_at}
use Rattle.frame_links.specs.declared.pcap_frames.walk.Frame.{Frame}
use Rattle.frame_links.specs.PcapFrames.Playing.{Playing, after_look}
use Rattle.frame_links.specs.PcapFrames.Walk.{came_found, frames_from}
use Rattle.frame_links.proofs.PcapFrames.Looks.{after_found, laid, looked, still_playing}
use Rattle.frame_links.proofs.pcap_frames.link.PcapLinkLink.poll.Goals as goal

pub invariant_of-self-2 : goal.invariant_of-self-2
invariant_of-self-2 c =
    still_playing (frames_from c.self.inside.order (drop 24 c.self.inside.file.items)) (frames_from c.self.inside.order (drop c.self.inside.at c.self.inside.file.items))
    (frames_from c.self.inside.order (drop c.next_frame-found.result.at c.self.inside.file.items)) (came_found c.in-Some.frame) c.self.inside.at
    c.next_frame-found.result.at (vec_len c.self.inside.file) c.self.inside.empties c.self.invariant
    (rw (c.deref.ensures.value, c.in-Some.is) at c.next_frame-found.ensures.next)
    (omega (arith, c.next_frame-found.ensures.within, ap length c.deref.ensures.value, c.self.inside.file.ok.0))

pub returns-clause-polled : goal.returns-clause-polled
returns-clause-polled c =
    let octets = laid c.in-Some.frame.pdu.now c.copy_from_slice.new.self (drop (length c.in-Some.frame.pdu.now) c.args.buf.now)
    (c.copy_from_slice.ensures.after ∙ ap (λ (f : Frame). f.pdu.now) c.in-Some.frame-is) in
    rw (c.in-Some.frame-is, octets, ← c.self.view_is)
    (looked (frames_from c.self.inside.order (drop 24 c.self.inside.file.items)) (frames_from c.self.inside.order (drop c.self.inside.at c.self.inside.file.items))
    (frames_from c.self.inside.order (drop c.next_frame-found.result.at c.self.inside.file.items)) (came_found c.in-Some.frame) (Some (came_found c.in-Some.frame))
    c.self.inside.at (vec_len c.self.inside.file) c.self.inside.empties c.self.invariant
    (rw (c.deref.ensures.value, c.in-Some.is) at c.next_frame-found.ensures.next) refl)

pub returns-clause-came : goal.returns-clause-came
returns-clause-came c =
    let octets = laid c.in-Some.frame.pdu.now c.copy_from_slice.new.self (drop (length c.in-Some.frame.pdu.now) c.args.buf.now)
    (c.copy_from_slice.ensures.after ∙ ap (λ (f : Frame). f.pdu.now) c.in-Some.frame-is) in
    rw (c.in-Some.frame-is, octets, ← c.self.view_is)
    (sym (ap look_at (rw (c.deref.ensures.value, c.in-Some.is) at c.next_frame-found.ensures.next)))

pub returns-clause-after : goal.returns-clause-after
returns-clause-after c =
    after_found (frames_from c.self.inside.order (drop 24 c.self.inside.file.items)) c.self.invariant.before
    (frames_from c.self.inside.order (drop c.self.inside.at c.self.inside.file.items))
    (frames_from c.self.inside.order (drop c.next_frame-found.result.at c.self.inside.file.items)) (came_found c.in-Some.frame) c.self.inside.empties
    c.self.invariant.whole (rw (c.deref.ensures.value, c.in-Some.is) at c.next_frame-found.ensures.next)
    ∙ ap (λ (p : Playing). after_look p p.left) c.self.view_is
