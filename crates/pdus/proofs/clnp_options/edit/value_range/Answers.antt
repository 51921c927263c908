use Rattle.pdus.proofs.ClnpOptions.Located.{SoFar-start, SoFar-more}
use Rattle.pdus.proofs.clnp_options.edit.value_range.Goals as goal

pub loop-found-init : goal.loop-found-init
loop-found-init c = SoFar-start c.args.part.now c.args.code

pub loop-found-preserved : goal.loop-found-preserved
loop-found-preserved c = SoFar-more c.args.part.now c.loop-found.rest.now c.in-Some.others.now c.in-Some.value.now c.args.code c.in-Some.found c.loop-found.invariant c.in-Some.ensures.octets c.in-Some.ensures.options c.if-found-code.false
