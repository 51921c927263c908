use Rattle.std.proofs.Common.{◌≡◌, ◌∙◌, ◌+◌, ◌^◌, ◌-◌, refl, ℕ, List, [], ◌∷◌, min, ap, sym, subst}
use Rattle.std.proofs.Math.Seq.{take-length}
use Rattle.std.proofs.lemmas.Result.{err_from_is_err_and}
use Rattle.clnp_machine.specs.ClnpViews.Extent.{Extent, seen, whole}
use Rattle.clnp_machine.specs.Local.{Sends, Tells, refusal, sent_note, unit_of, unless_refused}
use Rattle.clnp_systems.specs.declared.action.Action.{Action}
use Rattle.clnp_systems.specs.declared.endpoint.Endpoint.{Endpoint}
use Rattle.clnp_systems.specs.Endpoint.{StandsWith, entity_of}
use Rattle.clnp_systems.specs.Local.{Appends}
use Rattle.clnp_systems.proofs.Making.{stands_making, appends_making}
use Rattle.clnp_systems.proofs.endpoint.Endpoint.make.Goals as goal

-- the copy shows the octets
shown : (view : Extent) (octets : List ℕ) → view ≡ whole octets → seen view ≡ octets
shown view octets e = ap seen e ∙ take-length octets

pub returns-in_err-head-clause-answer : goal.returns-in_err-head-clause-answer
returns-in_err-head-clause-answer c = λ table s stands moment.
    let p = err_from_is_err_and c.from_residual.result c.from_residual.ensures.1 in
    rw (p.1, p.2) (c.in_err-head.ensures.answer table s c.args.body.now stands moment refl)

pub returns-clause-answer : goal.returns-clause-answer
returns-clause-answer c = λ table s stands moment. (
  (c.in_ok-head.ensures.answer table s c.args.body.now stands moment refl).0,
  c.send.ensures.number ∙ ap (λ (n : ℕ). min (n + 1) (2 ^ 64 - 1)) stands.count,
)

pub returns-clause-stands : goal.returns-clause-stands
returns-clause-stands c = λ table s stands moment.
    let u = unit_of s c.args.kind c.args.from c.args.to c.args.body.now c.args.ask.now in
    let counted = ap (λ (n : ℕ). min (n + 1) (2 ^ 64 - 1)) stands.count in
    let body = shown c.in-Ok.body c.args.body.now c.in-Ok.ensures in
    let pending = c.note.ensures c.args.kind s.pending u
    (record { unit = c.saturating_add-unit.result; from = c.args.from; to = c.args.to; body = c.in-Ok.body })
    stands.pending c.in-Ok-of.ensures
    (record { number = c.saturating_add-unit.ensures ∙ counted; source = refl; destination = refl; shown = body }) in
    subst (λ (e : Endpoint). StandsWith table e (unless_refused (refusal s u) s u).after) (sym c.send.ensures.counted)
    (stands_making (entity_of c.args.self.now table) c.drawn-id.new.pool c.send.result c.note.new.self s u (refusal s u)
    (c.in_ok-head.ensures.answer table s c.args.body.now stands moment refl).0
    stands (c.drawn-id.ensures.stands s stands.identifiers moment) (c.send.ensures.number ∙ counted) pending)

pub returns-clause-actions : goal.returns-clause-actions
returns-clause-actions c = λ table s stands moment.
    let answer = c.in_ok-head.ensures.answer table s c.args.body.now stands moment refl in
    let u = unit_of s c.args.kind c.args.from c.args.to c.args.body.now c.args.ask.now in
    let number = c.send.ensures.number ∙ ap (λ (n : ℕ). min (n + 1) (2 ^ 64 - 1)) stands.count in
    let id = c.drawn-id.ensures.id s stands.identifiers in
    let body = shown c.in-Ok.body c.args.body.now c.in-Ok.ensures in
    appends_making c.args.out.now.items c.send.new.out.items s u (refusal s u) answer.0
    (subst (λ (l : List Action). Appends l c.send.new.out.items (Tells (sent_note u) ∷ Sends u ∷ [])) c.reserve_exact.ensures.items
    (c.send.ensures.actions u
    (record { kind = refl; identifier = id; source = refl; destination = refl; spells = answer.1; shown = body }) number))
