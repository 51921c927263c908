use Rattle.std.proofs.Common.{ap, arith, take, ◌∙◌}
use Rattle.pdus.specs.ClnpViews.Extent.{seen}
use Rattle.pdus.proofs.ClnpViews.Parts.{first_part}
use Rattle.pdus.proofs.clnp_views.view.View.first_octets.Goals as goal

pub returns-then-self-lt-MOST : goal.returns-then-self-lt-MOST
returns-then-self-lt-MOST c =
    c.head.ensures
    ∙ ap (λ k. take k (seen c.args.self.now)) (ap (λ e. e.len) c.self.view_is)
    ∙ first_part c.args.self.now (omega (arith, c.if-self-lt-MOST.true, ap (λ e. e.len) c.self.view_is))
