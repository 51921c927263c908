use Rattle.std.proofs.Common.{◌≤◌, ◌∙◌, length, subst, sym, arith}
use Rattle.std.proofs.lemmas.Result.{err_from_is_err_and}
use Rattle.clnp_machine.specs.Local.{unit_of}
use Rattle.clnp_machine.specs.ClnpPlan.declared.note.Note.{Note}
use Rattle.std.specs.Prelude.{Option}
use Rattle.clnp_systems.specs.Local.{IsWhy}
use Rattle.clnp_systems.specs.Endpoint.{entity_of}
use Rattle.clnp_systems.proofs.Refusals.{own_of, refusal_last, why_long_header}
use Rattle.clnp_systems.proofs.endpoint.Endpoint.next_header.Goals as goal

pub returns-in_err-head-clause-answer : goal.returns-in_err-head-clause-answer
returns-in_err-head-clause-answer c = λ table s octets stands moment same.
    let p = err_from_is_err_and c.from_residual.result c.from_residual.ensures.1 in
    let few : length octets ≤ 64512 = omega arith in
    let u = unit_of s c.args.kind c.args.from c.args.to octets c.args.ask.now in
    let mine = own_of (entity_of c.args.self.now table) s c.args.from c.is_own.result stands c.is_own.ensures in
    rw (p.1, p.2)
    (why_long_header s u c.is_own.result mine c.in_err-head.field-0.0 c.if-not-is_own.false few (c.in_err-head.ensures table s octets stands same))

pub returns-in_err-may_draw-clause-answer : goal.returns-in_err-may_draw-clause-answer
returns-in_err-may_draw-clause-answer c = λ table s octets stands moment same.
    let p = err_from_is_err_and c.from_residual-in_err-may_draw.result c.from_residual-in_err-may_draw.ensures.1 in
    let few : length octets ≤ 64512 = omega arith in
    let u = unit_of s c.args.kind c.args.from c.args.to octets c.args.ask.now in
    let mine = own_of (entity_of c.args.self.now table) s c.args.from c.is_own.result stands c.is_own.ensures in
    let fits = (c.in_ok-head.ensures table s octets stands same).pdu.header_fits in
    let last = refusal_last s u c.is_own.result mine c.if-not-is_own.false few fits in
    rw (p.1, p.2)
    (subst (λ (answer : Option Note). IsWhy c.in_err-may_draw.field-0.0 answer) (sym last) (c.in_err-may_draw.ensures s stands.identifiers moment))

pub returns-clause-answer : goal.returns-clause-answer
returns-clause-answer c = λ table s octets stands moment same.
    let few : length octets ≤ 64512 = omega arith in
    let u = unit_of s c.args.kind c.args.from c.args.to octets c.args.ask.now in
    let mine = own_of (entity_of c.args.self.now table) s c.args.from c.is_own.result stands c.is_own.ensures in
    let spells = c.in_ok-head.ensures table s octets stands same in
    let last = refusal_last s u c.is_own.result mine c.if-not-is_own.false few spells.pdu.header_fits in
    (last ∙ c.in_ok-may_draw.ensures s stands.identifiers moment, spells)
