-- One piece more is given out.
use Rattle.std.proofs.Common.{◌≡◌, ◌∙◌, ◌++◌, [], ◌∷◌, List, ap, append_assoc, length, refl, subst, sym, take}
use Rattle.std.proofs.lemmas.List.{take_at}
use Rattle.std.proofs.lemmas.Result.{err_from_is_err_and}
use Rattle.std.specs.List.{AllByRecursion}
use Rattle.clnp_machine.specs.MadePdus.Left.{IsCutOf}
use Rattle.clnp_machine.specs.Pdus.declared.made_pdus.cuts.Cut.{Cut}
use Rattle.clnp_systems.proofs.Pieces.{given_more}
use Rattle.clnp_systems.proofs.sending.push_pieces.Goals as goal

pub loop-cut-preserved : goal.loop-cut-preserved
loop-cut-preserved c =
    let each : AllByRecursion (IsCutOf c.args.body.now.len) (c.in-Some.cut ∷ c.next.new.self.now) =
    subst (λ (cuts : List Cut). AllByRecursion (IsCutOf c.args.body.now.len) cuts) c.in-Some.ensures.steps c.loop-cut.invariant.left in
    record {
      left = each.1;
      given = given_more c.args.forwarded c.args.hop.now c.args.body.now c.args.out.now.items c.loop-cut.out.items c.push_piece.new.out.items
          c.loop-cut.yielded c.in-Some.cut _ c.loop-cut.invariant.given each.0.within
          refl c.in_ok-push_piece.ensures.given;
      all = c.loop-cut.invariant.all ∙ ap (λ (cuts : List Cut). c.loop-cut.yielded ++ cuts) c.in-Some.ensures.steps
          ∙ sym (append_assoc c.loop-cut.yielded (c.in-Some.cut ∷ []) c.next.new.self.now);
    }

pub returns-in_err-push_piece-clause-front : goal.returns-in_err-push_piece-clause-front
returns-in_err-push_piece-clause-front c =
    let before = c.args.out.now.items in
    let kept : take (length before) c.push_piece.new.out.items ≡ before =
    ap (λ outputs. take (length before) outputs) (c.in_err-push_piece.ensures.none ∙ c.loop-cut.invariant.given)
    ∙ take_at before _ (length before) refl in
    let refused = err_from_is_err_and c.from_residual.result c.from_residual.ensures.1 in
    rw (refused.1) kept

pub push_piece-requires : goal.push_piece-requires
push_piece-requires c =
    (subst (λ (cuts : List Cut). AllByRecursion (IsCutOf c.args.body.now.len) cuts) c.in-Some.ensures.steps c.loop-cut.invariant.left).0.within

pub returns-in_err-push_piece-clause-given : goal.returns-in_err-push_piece-clause-given
returns-in_err-push_piece-clause-given c =
    let refused = err_from_is_err_and c.from_residual.result c.from_residual.ensures.1 in
    rw (refused.1) tt
