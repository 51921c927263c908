use Rattle.std.proofs.Common.{◌<◌, ◌-◌, ◌∙◌, ℕ, ap, arith, length, refl, sym, take}
use Rattle.std.proofs.lemmas.Option.{slice_get-get_or}
use Rattle.system_tables.proofs.ForwardingFacts.Choosing.{longest_nowhere}
use Rattle.system_tables.proofs.ForwardingFacts.Entries.{found_here, none_here}
use Rattle.system_tables.proofs.forwarding.routes.Routes.longest.Goals as goal

pub returns-then-is_some : goal.returns-then-is_some
returns-then-is_some c = λ list stands.
    let n : ℕ = c.loop-len.len - 1 in
    let within : n < length c.args.self.now.by_length = omega arith in
    let at = slice_get-get_or c.args.self.now.by_length n c.index-self-len.result within in
    found_here c.args.self.now list c.args.address.now c.of_address-digits.result (take n c.of_address-digits.result) n _ c.route_in-route.result stands c.of_address-digits.ensures.digits refl (omega (arith, c.len-len.ensures.count)) at c.route_in-route.ensures
    (λ k from to. c.loop-len.invariant list stands k (omega arith) to) (sym c.is_some.ensures ∙ c.if-is_some.true)

pub loop-len-preserved : goal.loop-len-preserved
loop-len-preserved c = λ list stands.
    let n : ℕ = c.loop-len.len - 1 in
    let within : n < length c.args.self.now.by_length = omega arith in
    let at = slice_get-get_or c.args.self.now.by_length n c.index-self-len.result within in
    none_here c.args.self.now list c.args.address.now c.of_address-digits.result (take n c.of_address-digits.result) n _ c.route_in-route.result stands c.of_address-digits.ensures.digits refl (omega (arith, c.len-len.ensures.count)) at c.route_in-route.ensures
    (λ k from to. c.loop-len.invariant list stands k (omega arith) to) (sym c.is_some.ensures ∙ c.if-is_some.false)

pub returns : goal.returns
returns c = λ list stands.
    sym (longest_nowhere c.args.address.now list (λ k to. c.loop-len.invariant list stands k (omega arith) (omega (arith, ap length c.of_address-digits.ensures.digits))))
