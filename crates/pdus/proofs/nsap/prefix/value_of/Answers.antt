use Rattle.std.proofs.Common.{Ok, Err, ap, get_or, sym}
use Rattle.clnp_base.proofs.Hexadecimal.{digit_read}
use Rattle.pdus.proofs.NsapFacts.Digits.{value_small}
use Rattle.pdus.proofs.nsap.prefix.value_of.Goals as goal

pub returns-in-Ok-clause-value : goal.returns-in-Ok-clause-value
returns-in-Ok-clause-value c = ap (λ ds. get_or ds 0 0) (digit_read 0 c.args.digit (Ok c.in-Ok.octet) c.in-Ok.ensures)

pub returns-in-Ok-clause-bound : goal.returns-in-Ok-clause-bound
returns-in-Ok-clause-bound c = rw (returns-in-Ok-clause-value c) (value_small c.args.digit)

pub returns-in-Err-clause-value : goal.returns-in-Err-clause-value
returns-in-Err-clause-value c = sym (digit_read 0 c.args.digit (Err c.in-Err.field-0) c.in-Err.ensures)
