-- One edit follows another.
use Rattle.clnp_machine.specs.Step.{most_titles, passing_own}
use Rattle.clnp_machine.specs.PduHeader.Headers.{with_options}
use Rattle.clnp_systems.proofs.Behind.{is_behind}
use Rattle.clnp_systems.proofs.passage.behind.Goals as goal

pub returns : goal.returns
returns c = λ s v title noted spells.
    is_behind s v c.args.title.now c.args.congested c.tell.new.head title noted
    (c.tell.ensures (with_options (passing_own most_titles s v.options) v) (c.pass_own.ensures s v title spells))
