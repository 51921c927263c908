use Rattle.pdus.proofs.ClnpOptions.Pushed.{well_formed-nil}
use Rattle.pdus.proofs.clnp_options.list.OptionList.new.Goals as goal

pub invariant_of-result : goal.invariant_of-result
invariant_of-result c = rw c.new.ensures well_formed-nil
