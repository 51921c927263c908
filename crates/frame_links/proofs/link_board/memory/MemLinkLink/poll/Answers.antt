use Rattle.std.proofs.Common.{◌<◌, ◌≤◌, length, vec_len, arith, append-nil, length-take-le, sym, ap, ◌∙◌}
use Rattle.frame_links.specs.LinkBoard.Memory.{look_at}
use Rattle.frame_links.proofs.LinkBoard.Looking.{came_more, laid, left_more, looked_empty, looked_one, looks_more, next_frame, none_empty, none_left}
use Rattle.frame_links.proofs.link_board.memory.MemLinkLink.poll.Goals as goal

pub invariant_of-self-then-self-len : goal.invariant_of-self-then-self-len
invariant_of-self-then-self-len c = record {
  within = c.self.invariant.within;
  last = λ some. omega (arith, c.self.invariant.within, c.if-self-len.true);
}

pub returns-then-self-len-clause-came : goal.returns-then-self-len-clause-came
returns-then-self-len-clause-came c =
    let past : length c.self.inside.frames.items ≤ c.self.inside.at = omega (arith, c.self.inside.frames.ok.0) in
    rw (← c.self.view_is) (sym (ap look_at (none_left c.self.inside.frames.items c.self.inside.at past)))

pub returns-then-self-len-clause-after : goal.returns-then-self-len-clause-after
returns-then-self-len-clause-after c =
    let past : length c.self.inside.frames.items ≤ c.self.inside.at = omega (arith, c.self.inside.frames.ok.0) in
    looked_empty _ _ c.saturating_add-self-inside.result c.saturating_add-self-inside-then-self-len.result c.self.view_is
    c.saturating_add-self-inside.ensures c.saturating_add-self-inside-then-self-len.ensures
    (none_left c.self.inside.frames.items c.self.inside.at past)

pub slice_bounds-copy_from_slice-end-2 : goal.slice_bounds-copy_from_slice-end-2
slice_bounds-copy_from_slice-end-2 c = sym (length-take-le c.min-len.result c.args.buf.now (omega (arith, c.min-len.ensures, c.requires)))

pub copy_from_slice-requires : goal.copy_from_slice-requires
copy_from_slice-requires c =
    length-take-le c.min-len.result c.args.buf.now (omega (arith, c.min-len.ensures, c.requires))
    ∙ sym (length-take-le c.min-len.result c.as_bytes-octets.result.now (omega (arith, c.min-len.ensures)))

pub invariant_of-self-2 : goal.invariant_of-self-2
invariant_of-self-2 c =
    let none = none_empty c.self.inside.empties c.self.inside.at (vec_len c.self.inside.frames) c.self.invariant.last (omega (arith, c.if-self-len.false)) in
    record {
      within = omega (arith, c.if-self-len.false);
      last = λ some. absurd (omega (arith, none, some));
    }

pub returns-clause-after : goal.returns-clause-after
returns-clause-after c =
    let within : c.self.inside.at < length c.self.inside.frames.items = omega (arith, c.self.inside.frames.ok.0) in
    looked_one _ _ c.saturating_add-self-inside.result _ _ _ c.self.view_is c.saturating_add-self-inside.ensures
    (left_more c.self.inside.frames.items c.self.inside.at c.index-frame.result.now c.index-frame.ensures within)
    (came_more c.self.inside.frames.items c.self.inside.at c.index-frame.result.now c.index-frame.ensures within)

pub returns-clause-came : goal.returns-clause-came
returns-clause-came c =
    let within : c.self.inside.at < length c.self.inside.frames.items = omega (arith, c.self.inside.frames.ok.0) in
    let octets = laid c.as_bytes-octets.result.now c.copy_from_slice.new.self c.args.buf.now c.min-len.result c.min-len.ensures c.copy_from_slice.ensures.after in
    rw (octets, c.as_bytes-octets.ensures, ← c.self.view_is)
    (sym (next_frame c.self.inside.frames.items c.self.inside.at c.index-frame.result.now c.index-frame.ensures within))

pub returns-clause-polled : goal.returns-clause-polled
returns-clause-polled c =
    let within : c.self.inside.at < length c.self.inside.frames.items = omega (arith, c.self.inside.frames.ok.0) in
    let octets = laid c.as_bytes-octets.result.now c.copy_from_slice.new.self c.args.buf.now c.min-len.result c.min-len.ensures c.copy_from_slice.ensures.after in
    let none = none_empty c.self.inside.empties c.self.inside.at (vec_len c.self.inside.frames) c.self.invariant.last (omega (arith, c.if-self-len.false)) in
    rw (octets, c.as_bytes-octets.ensures, ← c.self.view_is) (record {
      looks = looks_more c.self.inside.frames.items c.self.inside.at c.self.inside.empties c.index-frame.result.now c.index-frame.ensures within none;
      sent = sym (append-nil c.self.inside.outbox.sent);
      faults = omega arith;
      empties = omega arith;
      empty = λ e. absurd (cc);
    })
