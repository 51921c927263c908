use Rattle.std.proofs.Common.{◌∙◌}
use Rattle.pdus.proofs.NsapFacts.PrefixFacts.{IsPrefix-values}
use Rattle.pdus.proofs.nsap.prefix.Prefix.from_text.Goals as goal

pub invariant_of-result-2 : goal.invariant_of-result-2
invariant_of-result-2 c =
    IsPrefix-values c.collect_digits.new.digits c.of.result c.in-Some-collect_digits.count c.in-Some-collect_digits.ensures.few.0 c.collect_digits.array_long (c.of.ensures ∙ c.read_values.ensures)

pub returns-clause-bounds : goal.returns-clause-bounds
returns-clause-bounds c =
    IsPrefix-values c.collect_digits.new.digits c.of.result c.in-Some-collect_digits.count c.in-Some-collect_digits.ensures.few.0 c.collect_digits.array_long (c.of.ensures ∙ c.read_values.ensures)
