use Rattle.std.proofs.Common.{◌+◌, drop, length, None, Some, refl, arith}
use Rattle.frame_links.specs.PcapFrames.View.{captured_value}
use Rattle.frame_links.specs.PcapFrames.Walk.{came_found}
use Rattle.frame_links.proofs.PcapFrames.Walking.{first_from, frames_end, passed, passed_within}
use Rattle.frame_links.proofs.pcap_frames.walk.find_frame.Goals as goal

pub overflow_add-at-in-Some : goal.overflow_add-at-in-Some
overflow_add-at-in-Some c =
    let ends = passed_within c.args.order c.args.file.now c.loop-record.at (c.loop-record.at + (16 + length c.in-Some.record.octets.now)) (captured_value c.in-Some.record)
    c.loop-record.invariant.within (first_from c.args.order c.args.file.now c.loop-record.at (Some (captured_value c.in-Some.record)) c.in-Some.ensures) refl in
    omega (arith, ends.0)

pub returns-in-Some-frame_in-clause-within : goal.returns-in-Some-frame_in-clause-within
returns-in-Some-frame_in-clause-within c =
    (passed_within c.args.order c.args.file.now c.loop-record.at (c.loop-record.at + (16 + length c.in-Some.record.octets.now)) (captured_value c.in-Some.record)
    c.loop-record.invariant.within (first_from c.args.order c.args.file.now c.loop-record.at (Some (captured_value c.in-Some.record)) c.in-Some.ensures) refl).0

pub returns-in-Some-frame_in-clause-next : goal.returns-in-Some-frame_in-clause-next
returns-in-Some-frame_in-clause-next c =
    passed c.args.order c.args.file.now c.args.start c.loop-record.at (c.loop-record.at + (16 + length c.in-Some.record.octets.now)) (captured_value c.in-Some.record)
    (Some (came_found c.in-Some-frame_in.frame)) c.loop-record.invariant.same (first_from c.args.order c.args.file.now c.loop-record.at (Some (captured_value c.in-Some.record)) c.in-Some.ensures) refl c.in-Some-frame_in.ensures.came

pub loop-record-smaller : goal.loop-record-smaller
loop-record-smaller c =
    let ends = passed_within c.args.order c.args.file.now c.loop-record.at (c.loop-record.at + (16 + length c.in-Some.record.octets.now)) (captured_value c.in-Some.record)
    c.loop-record.invariant.within (first_from c.args.order c.args.file.now c.loop-record.at (Some (captured_value c.in-Some.record)) c.in-Some.ensures) refl in
    omega (arith, ends.0, ends.1)

pub loop-record-preserved : goal.loop-record-preserved
loop-record-preserved c =
    record {
      within = (passed_within c.args.order c.args.file.now c.loop-record.at (c.loop-record.at + (16 + length c.in-Some.record.octets.now)) (captured_value c.in-Some.record)
          c.loop-record.invariant.within (first_from c.args.order c.args.file.now c.loop-record.at (Some (captured_value c.in-Some.record)) c.in-Some.ensures) refl).0;
      same = passed c.args.order c.args.file.now c.args.start c.loop-record.at (c.loop-record.at + (16 + length c.in-Some.record.octets.now)) (captured_value c.in-Some.record)
          None c.loop-record.invariant.same (first_from c.args.order c.args.file.now c.loop-record.at (Some (captured_value c.in-Some.record)) c.in-Some.ensures) refl c.in_default-frame_in.ensures.came;
    }

pub returns-clause-last : goal.returns-clause-last
returns-clause-last c =
    frames_end c.args.order (drop c.loop-record.at c.args.file.now) (first_from c.args.order c.args.file.now c.loop-record.at None c.in_default.ensures)
