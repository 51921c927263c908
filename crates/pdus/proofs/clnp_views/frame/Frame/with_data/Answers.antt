use Rattle.std.proofs.Common.{ap, arith, drop, length, subst, take, ◌+◌, ◌++◌, ◌-◌, ◌∙◌, ◌≡◌}
use Rattle.std.specs.Prelude.{IfOk}
use Rattle.std.specs.Rc.{rc_slice_items}
use Rattle.pdus.proofs.ClnpViews.Parts.{seen_shared}
use Rattle.pdus.proofs.clnp_views.frame.Frame.with_data.Goals as goal

pub returns-then-own-place : goal.returns-then-own-place
returns-then-own-place c =
    let octets = rc_slice_items c.frame.inside.octets in
    let place : c.place-place.result - c.len-own.result ≡ c.args.body.now.from + c.args.from - length c.frame.inside.front =
    omega (arith, c.place-place.ensures.place, c.len-own.ensures.count) in
    let shared =
    ap (λ k. take c.args.len (drop (c.frame.inside.from + k) octets)) place
    ∙ seen_shared c.frame.inside.front octets c.frame.inside.from c.frame.inside.len c.args.from c.args.len c.args.body.now
    (c.frame.view_is ∙ c.frame-frame.ensures) c.frame.invariant.1 c.place-place.ensures.within c.requires
    (omega (arith, c.if-own-place.true, c.place-place.ensures.place, c.len-own.ensures.count)) in
    subst (λ xs. IfOk c.sharing.result (λ frame. frame ≡ c.args.head.now ++ xs)) shared c.sharing.ensures
