use Rattle.std.proofs.Common.{sym, refl, ◌∙◌, replicate, take}
use Rattle.pdus.proofs.NsapFacts.TextFacts.{halves, read_bad, read_many, read_refused, read_whole}
use Rattle.pdus.proofs.nsap.octets.Octets.from_text.Goals as goal

pub returns-in-Some-clause-value : goal.returns-in-Some-clause-value
returns-in-Some-clause-value c = sym (read_bad c.args.text.now c.in-Some.place (sym c.first_bad_digit.ensures ∙ c.in-Some.is))

pub returns-in_default-collect_digits-clause-value :
    goal.returns-in_default-collect_digits-clause-value
returns-in_default-collect_digits-clause-value c =
    sym (read_many c.args.text.now (sym c.first_bad_digit.ensures ∙ c.in_default.is) c.in_default-collect_digits.ensures.many)

pub returns-then-is_err-clause-value : goal.returns-then-is_err-clause-value
returns-then-is_err-clause-value c =
    let few = c.in-Some-collect_digits.ensures.few in
    let half = halves c.in-Some-collect_digits.count c.collect_digits.new.digits (replicate 20 0) few.0 c.collect_digits.array_long refl in
    sym (read_refused c.args.text.now (take c.in-Some-collect_digits.count c.collect_digits.new.digits) _ c.decode_to_slice.new.out c.decode_to_slice.result (sym c.first_bad_digit.ensures ∙ c.in_default.is) few.1 half c.decode_to_slice.ensures.value (sym c.is_err.ensures.value ∙ c.if-is_err.true))

pub returns-clause-value : goal.returns-clause-value
returns-clause-value c =
    let few = c.in-Some-collect_digits.ensures.few in
    let half = halves c.in-Some-collect_digits.count c.collect_digits.new.digits (replicate 20 0) few.0 c.collect_digits.array_long refl in
    c.from_bytes.ensures.value
    ∙ sym (read_whole c.args.text.now (take c.in-Some-collect_digits.count c.collect_digits.new.digits) _ c.decode_to_slice.new.out c.decode_to_slice.result (sym c.first_bad_digit.ensures ∙ c.in_default.is) few.1 half c.decode_to_slice.ensures.value (sym c.is_err.ensures.value ∙ c.if-is_err.false))
