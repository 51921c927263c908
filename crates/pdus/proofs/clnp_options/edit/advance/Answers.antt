use Rattle.std.proofs.Common.{refl}
use Rattle.pdus.specs.ClnpOptions.Edits.{advanced}
use Rattle.pdus.proofs.clnp_options.edit.advance.Goals as goal

pub returns : goal.returns
unfolding advanced
returns c = refl
