-- What was joined and what is left are the whole data.
use Rattle.std.proofs.Common.{◌++◌, ℕ, List, sym, ap, ◌∙◌, append_assoc, append-nil}
use Rattle.clnp_systems.proofs.local.receipt.offering.joined.Goals as goal

pub loop-piece-preserved : goal.loop-piece-preserved
loop-piece-preserved c =
    ap (λ (octets : List ℕ). octets ++ c.next.new.self) c.in_ok-extend_from_slice.ensures.items
    ∙ append_assoc c.loop-piece.octets.items c.in-Some.piece.now c.next.new.self
    ∙ ap (λ (left : List ℕ). c.loop-piece.octets.items ++ left) (sym c.in-Some.ensures.steps.1)
    ∙ c.loop-piece.invariant

pub returns : goal.returns
returns c whole are =
    c.from_vec.ensures
    ∙ sym (append-nil c.loop-piece.octets.items)
    ∙ ap (λ (left : List ℕ). c.loop-piece.octets.items ++ left) (sym c.in-None.ensures.steps.0)
    ∙ c.loop-piece.invariant
    ∙ ap (λ (octets : List ℕ). octets ++ c.into_iter-piece-iterator.result) c.in_ok-octets.ensures.items
    ∙ c.into_iter-piece-iterator.ensures.into_iter_gives
    ∙ c.pieces-piece-items.ensures are.buffers are.buffer are.stands are.is_there are.named
    ∙ sym are.octets_are
