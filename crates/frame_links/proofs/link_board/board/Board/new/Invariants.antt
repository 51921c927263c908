use Rattle.std.proofs.Common.{◌≡◌, map, option_map}
use Rattle.frame_links.specs.LinkBoard.Ports.{attached_to}
use Rattle.frame_links.proofs.link_board.board.Board.new.Given as goal

abbrev pub invariant-loop-link : goal.invariant-loop-link
invariant-loop-link g l =
    map (λ p. record { link = option_map (λ b. (goal.Link-dyn g (b.vtable, b.value)).seen b.value) p.link; attached = p.attached }) l.ports.items
    ≡ map (λ b. attached_to ((goal.Link-dyn g (b.vtable, b.value)).seen b.value)) l.yielded
