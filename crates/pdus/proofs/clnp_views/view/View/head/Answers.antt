use Rattle.std.proofs.Common.{ap, arith, length}
use Rattle.std.proofs.lemmas.List.{length-append, length-take}
use Rattle.pdus.specs.ClnpViews.Extent.{seen}
use Rattle.pdus.proofs.clnp_views.view.View.head.Goals as goal

pub of_parts-requires : goal.of_parts-requires
of_parts-requires c = omega (arith, length-append c.parts.result.0.now c.parts.result.1.now, ap length c.parts.ensures.octets, length-take c.args.len (seen c.args.self.now), c.requires.few)
