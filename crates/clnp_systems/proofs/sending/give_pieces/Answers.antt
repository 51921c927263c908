-- One piece, which is the PDU uncut, or several.
use Rattle.std.proofs.Common.{◌≡◌, ◌++◌, ◌∙◌, [], ◌∷◌, List, ap, drop, length, map, refl, subst, sym, take}
use Rattle.std.specs.List.{AllByRecursion}
use Rattle.std.specs.Prelude.{OnOk}
use Rattle.std.proofs.lemmas.List.{take_at}
use Rattle.clnp_machine.specs.ClnpPlan.declared.output.Output.{Output}
use Rattle.clnp_machine.specs.ClnpViews.Extent.{seen}
use Rattle.clnp_machine.specs.MadePdus.Left.{IsCutOf}
use Rattle.clnp_machine.specs.Pdus.declared.made_pdus.cuts.Cut.{Cut}
use Rattle.clnp_systems.specs.Sending.{transmission}
use Rattle.clnp_systems.proofs.Pieces.{front_stays, piece_is, sent_with}
use Rattle.clnp_systems.proofs.sending.give_pieces.Goals as goal

pub push_piece-requires : goal.push_piece-requires
push_piece-requires c =
    (subst (λ (cuts : List Cut). AllByRecursion (IsCutOf c.args.body.now.len) cuts) c.in-Some.ensures.single c.requires).0.within

pub returns-in-Some-clause-given : goal.returns-in-Some-clause-given
returns-in-Some-clause-given c =
    let cut : Cut = record { head = c.in-Some.head.now; from = 0; len = c.in-Some.len } in
    let each = subst (λ (cuts : List Cut). AllByRecursion (IsCutOf c.args.body.now.len) cuts) c.in-Some.ensures.single c.requires in
    let piece = piece_is c.args.forwarded c.args.hop c.args.body.now cut (take c.in-Some.len (drop 0 (seen c.args.body.now))) each.0.within refl in
    subst (λ (cuts : List Cut). OnOk c.push_piece.result (c.push_piece.new.out.items
    ≡ c.args.out.now.items ++ map (transmission c.args.forwarded c.args.hop c.args.body.now) cuts)) (sym c.in-Some.ensures.single)
    (subst (λ (output : Output). OnOk c.push_piece.result (c.push_piece.new.out.items ≡ c.args.out.now.items ++ output ∷ [])) piece
    c.push_piece.ensures.given)

pub returns-in-Some-clause-front : goal.returns-in-Some-clause-front
returns-in-Some-clause-front c =
    front_stays c.push_piece.result c.args.out.now.items c.push_piece.new.out.items
    (sent_with c.args.forwarded c.args.hop c.in-Some.head.now (take c.in-Some.len (drop 0 (seen c.args.body.now))) ∷ [])
    c.push_piece.ensures.given c.push_piece.ensures.none

pub returns-clause-front : goal.returns-clause-front
returns-clause-front c =
    let before = c.args.out.now.items in
    ap (λ (outputs : List Output). take (length before) outputs) c.in_default-push_pieces.ensures.given
    ∙ take_at before (map (transmission c.args.forwarded c.args.hop c.args.body.now) c.args.cuts.now) (length before) refl
