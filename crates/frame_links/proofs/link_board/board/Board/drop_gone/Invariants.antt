use Rattle.std.proofs.Common.{◌≡◌, ◌++◌, map, take, drop, length, option_map}
use Rattle.frame_links.specs.LinkBoard.Ports.{KeepsAttached, without_gone}
use Rattle.frame_links.proofs.link_board.board.Board.drop_gone.Given as goal

abbrev pub invariant-loop-place : goal.invariant-loop-place
invariant-loop-place g l = record {
  seen : map (λ p. record { link = option_map (λ b. (goal.Link-dyn g (b.vtable, b.value)).seen b.value) p.link; attached = p.attached }) l.self.ports.items
      ≡ map without_gone (take l.place (map (λ p. record { link = option_map (λ b. (goal.Link-dyn g (b.vtable, b.value)).seen b.value) p.link; attached = p.attached }) l.fn.self.ports.items))
      ++ drop l.place (map (λ p. record { link = option_map (λ b. (goal.Link-dyn g (b.vtable, b.value)).seen b.value) p.link; attached = p.attached }) l.fn.self.ports.items);
  kept : KeepsAttached (map (λ p. record { link = option_map (λ b. (goal.Link-dyn g (b.vtable, b.value)).seen b.value) p.link; attached = p.attached }) l.fn.self.ports.items)
      l.fn.self.ports.items l.self.ports.items;
  ports : length l.self.ports.items ≡ length l.fn.self.ports.items;
}
