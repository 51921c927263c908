use Rattle.pdus.proofs.ClnpOptions.Values.{marked-set, marked-kept}
use Rattle.pdus.proofs.clnp_options.edit.mark.Goals as goal

pub returns-then-octet-ge-GLOBALLY_UNIQUE : goal.returns-then-octet-ge-GLOBALLY_UNIQUE
returns-then-octet-ge-GLOBALLY_UNIQUE c = marked-set c.args.value.now c.if-octet-ge-GLOBALLY_UNIQUE.true

pub returns-else-octet-ge-GLOBALLY_UNIQUE : goal.returns-else-octet-ge-GLOBALLY_UNIQUE
returns-else-octet-ge-GLOBALLY_UNIQUE c = marked-kept c.args.value.now c.if-octet-ge-GLOBALLY_UNIQUE.false
