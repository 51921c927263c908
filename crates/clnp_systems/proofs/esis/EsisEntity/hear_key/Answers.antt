use Rattle.std.proofs.Common.{◌≡◌, refl}
use Rattle.std.proofs.lemmas.Result.{err_from_is_err_and}
use Rattle.clnp_machine.specs.ClnpPlan.declared.note.Note.TheVariants as note
use Rattle.clnp_machine.specs.Esis.{tells_new}
use Rattle.clnp_machine.specs.System.{Notes}
use Rattle.clnp_systems.proofs.Fronts.{front_one, front_same}
use Rattle.clnp_systems.proofs.Hearing.{key_heard, not_new}
use Rattle.clnp_systems.proofs.esis.EsisEntity.hear_key.Goals as goal
use Rattle.clnp_systems.proofs.esis.EsisEntity.hear_key.Goals.{in-New, in_default}

pub returns-in_err-reserve-clause-heard : goal.returns-in_err-reserve-clause-heard
returns-in_err-reserve-clause-heard c =
    let p = err_from_is_err_and c.from_residual.result c.from_residual.ensures.1 in
    rw p.1 tt

pub returns-in_err-reserve-clause-front : goal.returns-in_err-reserve-clause-front
returns-in_err-reserve-clause-front c = front_same _ _ c.reserve.ensures.items

pub returns-clause-heard : goal.returns-clause-heard
returns-clause-heard c =
    let new : c.match-matches.matches ≡ tells_new (Notes (note.Hear c.args.table c.args.key c.hear-heard.result)) =
    elim c.match-matches.branch [
      | in-New w ↦ rw (w.matches-is, w.in-New.is) refl
      | in_default w ↦ rw w.matches-is (not_new c.args.table c.args.key c.hear-heard.result w.in_default.not-New)
    ] in
    key_heard c.args.now (record { tables = c.self.inside.tables; period = c.self.inside.period; next_hello = c.self.inside.next_hello }) c.args.self.now
    c.hear-heard.new.self c.args.out.now.items c.reserve.new.self.items c.push_reserved.new.self.items
    c.match-matches.matches c.args.table c.args.key c.args.neighbour.now c.args.hold c.hear-heard.result c.self.view_is c.hear-heard.ensures.answered
    c.hear-heard.ensures.stands c.hear-heard.ensures.limits new c.reserve.ensures.items c.push_reserved.ensures.items

pub returns-clause-front : goal.returns-clause-front
returns-clause-front c = front_one _ _ _ _ c.reserve.ensures.items c.push_reserved.ensures.items
