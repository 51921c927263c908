use Rattle.std.proofs.Common.{◌≡◌, false, length, nat_lt, refl, arith}
use Rattle.std.proofs.lemmas.Bool.Decides.{nat_tests}
use Rattle.frame_links.proofs.LinkBoard.Sending.{length-frames_in, octets_in-frames_in}
use Rattle.frame_links.proofs.link_board.outbox.Outbox.has_room.Goals as goal

pub returns-then-len-self : goal.returns-then-len-self
returns-then-len-self c =
    let full : nat_lt (length c.self.inside.entries.items) c.self.inside.sends ≡ false = grind (arith, nat_tests, c.self.inside.entries.ok.0) in
    rw (← c.self.view_is, length-frames_in c.self.inside.entries.items c.self.inside.octets.items, full) refl

pub returns : goal.returns
returns c =
    rw (
      ← c.self.view_is,
      length-frames_in c.self.inside.entries.items c.self.inside.octets.items,
      octets_in-frames_in c.self.inside.entries.items c.self.inside.octets.items c.self.invariant.whole,
    )
    (grind (arith, nat_tests))
