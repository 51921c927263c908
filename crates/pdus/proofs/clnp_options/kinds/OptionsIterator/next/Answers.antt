use Rattle.std.proofs.Common.{sym, ◌∙◌, ap}
use Rattle.pdus.specs.ClnpOptions.Reading.{are_readable}
use Rattle.pdus.proofs.ClnpOptions.Agree.{readable_first}
use Rattle.pdus.proofs.clnp_options.kinds.OptionsIterator.next.Goals as goal

pub option_ref-requires : goal.option_ref-requires
option_ref-requires c = (readable_first _ _ (sym (ap are_readable c.in_ok-code.ensures.options) ∙ c.self.invariant)).0

pub invariant_of-self : goal.invariant_of-self
invariant_of-self c = (readable_first _ _ (sym (ap are_readable c.in_ok-code.ensures.options) ∙ c.self.invariant)).1
