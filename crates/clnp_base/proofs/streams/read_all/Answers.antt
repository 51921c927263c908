use Rattle.std.proofs.Common.{◌∙◌, arith, length-take, refl}
use Rattle.clnp_base.proofs.Pouring.{Poured-none, Poured-more, Poured-all, Poured-beyond, Poured-end, Poured-kept, Poured-within, Within-none}
use Rattle.clnp_base.proofs.streams.read_all.Goals as goal

pub loop-chunk-init : goal.loop-chunk-init
loop-chunk-init g c = (Poured-none c.args.limit c.args.into.now.items (g.S.Source.left c.args.source.now), refl)

pub returns-in_err-came-clause-pours : goal.returns-in_err-came-clause-pours
returns-in_err-came-clause-pours g c =
    Poured-kept c.loop-chunk.room c.args.limit c.args.into.now.items c.loop-chunk.into.items c.read_chunk.new.into.items
    (g.S.Source.left c.args.source.now) (g.S.Source.left c.loop-chunk.source) (g.S.Source.left c.read_chunk.new.source)
    c.loop-chunk.invariant.0 c.in_err-came.ensures.kept c.in_err-came.ensures.left

pub returns-then-came-eq0-clause-done : goal.returns-then-came-eq0-clause-done
returns-then-came-eq0-clause-done g c =
    Poured-all c.loop-chunk.room c.args.limit c.args.into.now.items c.loop-chunk.into.items c.read_chunk.new.into.items
    (g.S.Source.left c.args.source.now) (g.S.Source.left c.loop-chunk.source) (g.S.Source.left c.read_chunk.new.source)
    c.loop-chunk.invariant.0 (rw c.if-came-eq0.true at c.in_ok-came.ensures.pours) (c.in_ok-came.ensures.end c.if-came-eq0.true)

pub returns-then-came-eq0-clause-pours : goal.returns-then-came-eq0-clause-pours
returns-then-came-eq0-clause-pours g c = (returns-then-came-eq0-clause-done g c).pours

pub returns-then-came-room-clause-too_long : goal.returns-then-came-room-clause-too_long
returns-then-came-room-clause-too_long g c =
    λ _. Poured-beyond c.loop-chunk.room c.args.limit c.in_ok-came.came c.args.into.now.items c.loop-chunk.into.items c.read_chunk.new.into.items
    (g.S.Source.left c.args.source.now) (g.S.Source.left c.loop-chunk.source) (g.S.Source.left c.read_chunk.new.source)
    c.loop-chunk.invariant.0 c.in_ok-came.ensures.pours c.if-came-room.true
    (omega (arith, c.min-most.ensures, simp length-take at c.in_ok-came.ensures.within))

pub returns-then-came-room-clause-pours : goal.returns-then-came-room-clause-pours
returns-then-came-room-clause-pours g c = (returns-then-came-room-clause-too_long g c refl).pours

pub loop-chunk-preserved : goal.loop-chunk-preserved
loop-chunk-preserved g c = (
  Poured-more c.loop-chunk.room c.args.limit c.in_ok-came.came c.args.into.now.items c.loop-chunk.into.items c.read_chunk.new.into.items
      (g.S.Source.left c.args.source.now) (g.S.Source.left c.loop-chunk.source) (g.S.Source.left c.read_chunk.new.source)
      c.loop-chunk.invariant.0 c.in_ok-came.ensures.pours c.if-came-room.false,
  c.in_ok-came.ensures.count (λ e. cc e) ∙ c.loop-chunk.invariant.1,
)

pub returns-in_err-came-clause-within : goal.returns-in_err-came-clause-within
returns-in_err-came-clause-within g c = λ _.
    Poured-within c.loop-chunk.room c.args.limit c.args.into.now.items c.loop-chunk.into.items c.read_chunk.new.into.items
    (g.S.Source.left c.args.source.now) (g.S.Source.left c.loop-chunk.source) (g.S.Source.left c.read_chunk.new.source)
    c.loop-chunk.invariant.0 c.in_err-came.ensures.kept c.in_err-came.ensures.left

pub returns-then-came-eq0-clause-within : goal.returns-then-came-eq0-clause-within
returns-then-came-eq0-clause-within g c = λ _. Poured-end _ _ _ _ _ (returns-then-came-eq0-clause-done g c)

pub returns-in_default-clause-within : goal.returns-in_default-clause-within
returns-in_default-clause-within g c = λ _. Within-none c.args.limit c.args.into.now.items (g.S.Source.left c.args.source.now)

pub returns-in_err-came-clause-count : goal.returns-in_err-came-clause-count
returns-in_err-came-clause-count g c = λ other.
    c.in_err-came.ensures.count (λ same. other (grind (arith, same, c.from_residual.ensures))) ∙ c.loop-chunk.invariant.1
