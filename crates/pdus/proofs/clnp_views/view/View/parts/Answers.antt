use Rattle.std.proofs.Common.{ap, arith, drop, length, take, ◌+◌, ◌++◌, ◌-◌, ◌≤◌, ◌∙◌, ◌≡◌}
use Rattle.std.proofs.lemmas.List.{append-nil, take_rest}
use Rattle.pdus.specs.ClnpViews.Extent.{Extent, seen}
use Rattle.pdus.proofs.ClnpViews.Parts.{seen_across, seen_before, seen_behind}
use Rattle.pdus.proofs.clnp_views.view.View.parts.Goals as goal

pub returns-then-start-front : goal.returns-then-start-front
returns-then-start-front c =
    let extent : Extent = record { frame = c.self.inside.frame; from = c.self.inside.from; len = c.self.inside.len } in
    let place = c.self.inside.from + c.args.from - length c.parts.result.0.now in
    let size : place + c.args.len - place ≡ c.args.len = omega arith in
    let within : c.args.from + c.args.len ≤ c.self.inside.len = omega (arith, c.requires, ap (λ e. e.len) c.self.view_is) in
    record {
      octets =
          ap (λ k. take k (drop place c.parts.result.1.now)) size
          ∙ seen_behind c.parts.result.0.now c.parts.result.1.now c.args.from c.args.len extent c.parts.ensures.octets within
          (omega (arith, c.if-start-front.true))
          ∙ ap (λ e. take c.args.len (drop c.args.from (seen e))) c.self.view_is;
    }

pub returns-then-len-here : goal.returns-then-len-here
returns-then-len-here c =
    let extent : Extent = record { frame = c.self.inside.frame; from = c.self.inside.from; len = c.self.inside.len } in
    let place = c.self.inside.from + c.args.from in
    let size : place + c.args.len - place ≡ c.args.len = omega arith in
    let within : c.args.from + c.args.len ≤ c.self.inside.len = omega (arith, c.requires, ap (λ e. e.len) c.self.view_is) in
    record {
      octets =
          append-nil (take (place + c.args.len - place) (drop place c.parts.result.0.now))
          ∙ ap (λ k. take k (drop place c.parts.result.0.now)) size
          ∙ seen_before c.parts.result.0.now c.parts.result.1.now c.args.from c.args.len extent c.parts.ensures.octets within
          (omega (arith, c.if-start-front.false, c.if-len-here.true))
          ∙ ap (λ e. take c.args.len (drop c.args.from (seen e))) c.self.view_is;
    }

pub returns : goal.returns
returns c =
    let extent : Extent = record { frame = c.self.inside.frame; from = c.self.inside.from; len = c.self.inside.len } in
    let place = c.self.inside.from + c.args.from in
    let within : c.args.from + c.args.len ≤ c.self.inside.len = omega (arith, c.requires, ap (λ e. e.len) c.self.view_is) in
    record {
      octets =
          ap (λ xs. xs ++ take (c.args.len - (length c.parts.result.0.now - place)) c.parts.result.1.now) (take_rest c.parts.result.0.now place)
          ∙ seen_across c.parts.result.0.now c.parts.result.1.now c.args.from c.args.len extent c.parts.ensures.octets within
          (omega (arith, c.if-start-front.false)) (omega (arith, c.if-start-front.false, c.if-len-here.false))
          ∙ ap (λ e. take c.args.len (drop c.args.from (seen e))) c.self.view_is;
    }
