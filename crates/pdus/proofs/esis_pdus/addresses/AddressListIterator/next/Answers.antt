use Rattle.std.proofs.Common.{◌∙◌, sym, ap, arith, length}
use Rattle.pdus.proofs.EsisPdus.FieldFacts.{none_left, next_address, rest_filled_at, has_field, is_long_enough, address_fits, address_ok}
use Rattle.pdus.proofs.esis_pdus.addresses.AddressListIterator.next.Goals as goal

next : goal.returns-clause-steps
next c =
    next_address c.self.inside.left _ _ _ _ c.if-self-eq0.false c.self.view_is (address_ok _ _ (sym c.in-Ok.ensures.value) ∙ c.in_ok-octets.ensures.octets) c.in_ok-octets.ensures.behind

pub returns-then-self-eq0-clause-steps : goal.returns-then-self-eq0-clause-steps
returns-then-self-eq0-clause-steps c =
    let e = sym c.self.view_is ∙ none_left c.self.inside.left _ c.if-self-eq0.true in (e, e)

pub returns-in_err-octets-clause-steps : goal.returns-in_err-octets-clause-steps
returns-in_err-octets-clause-steps c = absurd (has_field c.self.inside.left _ c.if-self-eq0.false c.self.invariant c.in_err-octets.ensures.judged)

pub returns-clause-steps : goal.returns-clause-steps
returns-clause-steps c = next c

pub invariant_of-self : goal.invariant_of-self
invariant_of-self c = rest_filled_at c.self.inside.left _ _ c.if-self-eq0.false c.in_ok-octets.ensures.behind c.self.invariant

pub returns-in_default-clause-steps : goal.returns-in_default-clause-steps
returns-in_default-clause-steps c =
    let fits = is_long_enough c.self.inside.left _ c.if-self-eq0.false c.self.invariant in
    absurd (address_fits _ _ c.in_default.field-0 c.in_ok-octets.ensures.octets fits.0 fits.1 (sym c.in_default.ensures.value))

pub returns-clause-goes : goal.returns-clause-goes
returns-clause-goes c = let e = next c in grind (arith, ap length e)
