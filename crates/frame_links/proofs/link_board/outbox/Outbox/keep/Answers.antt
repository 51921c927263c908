use Rattle.std.proofs.Common.{◌+◌, ◌++◌, ◌∷◌, [], length, sym, refl, arith, length-append}
use Rattle.frame_links.proofs.LinkBoard.Sending.{frames_in-more, lens_of-more, room_there}
use Rattle.frame_links.proofs.link_board.outbox.Outbox.keep.Goals as goal

pub lay-requires : goal.lay-requires
lay-requires c =
    let there = room_there c.self.inside.entries.items c.self.inside.octets.items (c.args.head.now ++ c.args.body.now) c.self.inside.sends c.self.inside.room
    c.self.invariant.whole (rw (← c.self.view_is) at c.requires) in
    omega (arith, there.1, c.self.invariant.octets_fit, c.self.inside.octets.ok.0, length-append c.args.head.now c.args.body.now)

pub unreachable-requires : goal.unreachable-requires
unreachable-requires c =
    let there = room_there c.self.inside.entries.items c.self.inside.octets.items (c.args.head.now ++ c.args.body.now) c.self.inside.sends c.self.inside.room
    c.self.invariant.whole (rw (← c.self.view_is) at c.requires) in
    omega (arith, there.0, c.self.invariant.entries_fit, c.self.inside.entries.ok.0, c.in_default.ensures.full)

pub invariant_of-self : goal.invariant_of-self
invariant_of-self c =
    let there = room_there c.self.inside.entries.items c.self.inside.octets.items (c.args.head.now ++ c.args.body.now) c.self.inside.sends c.self.inside.room
    c.self.invariant.whole (rw (← c.self.view_is) at c.requires) in
    let entry = lens_of-more c.self.inside.entries.items (record { to = c.args.to; len = length c.args.head.now + length c.args.body.now }) in
    let octets = length-append c.self.inside.octets.items (c.args.head.now ++ c.args.body.now) in
    let pieces = length-append c.args.head.now c.args.body.now in
    record {
      whole = rw (c.in-Ok.ensures.items, c.lay.ensures.laid) (omega (arith, entry, octets, pieces, c.self.invariant.whole));
      few = rw c.in-Ok.ensures.items (omega (arith, there.0, length-append c.self.inside.entries.items (record { to = c.args.to; len = length c.args.head.now + length c.args.body.now } ∷ [])));
      fits = rw c.lay.ensures.laid (omega (arith, there.1, octets));
      entries_fit = omega (arith, c.self.invariant.entries_fit, c.push.ensures.capacity);
      octets_fit = omega (arith, c.self.invariant.octets_fit, c.lay.ensures.room);
    }

pub returns : goal.returns
returns c =
    rw (
      c.in-Ok.ensures.items,
      c.lay.ensures.laid,
      frames_in-more c.self.inside.entries.items c.args.to (length c.args.head.now + length c.args.body.now) c.self.inside.octets.items (c.args.head.now ++ c.args.body.now)
          c.self.invariant.whole (sym (length-append c.args.head.now c.args.body.now)),
      ← c.self.view_is,
    ) refl
